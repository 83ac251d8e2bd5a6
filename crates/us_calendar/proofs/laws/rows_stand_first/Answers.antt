use Rattle.us_calendar.specs.Entries.{entries}
use Rattle.us_calendar.specs.Calendars.{pace_of}
use Rattle.us_calendar.proofs.OnceLaws.{rows_stand_first}
use Rattle.us_calendar.proofs.SortedLemmas.{entries_ordered, entries_windows}
use Rattle.us_calendar.proofs.laws.rows_stand_first.Goals as goal

pub returns : goal.returns
returns c = λ t channel cuts boards lawful many.
    rows_stand_first (pace_of t channel) (entries t channel) cuts boards (entries_ordered t channel lawful)
    (entries_windows t channel lawful) many
