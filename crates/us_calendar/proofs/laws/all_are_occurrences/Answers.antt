use Rattle.us_calendar.specs.Entries.{entries}
use Rattle.us_calendar.specs.Calendars.{opening}
use Rattle.us_calendar.proofs.NameLaws.{opening_states, rounds_told}
use Rattle.us_calendar.proofs.laws.all_are_occurrences.Goals as goal

pub returns : goal.returns
returns c = λ t channel cuts boards.
    rounds_told (entries t channel) (opening t channel) cuts boards (opening_states (entries t channel))
