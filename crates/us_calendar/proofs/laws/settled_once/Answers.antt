use Rattle.us_calendar.specs.Entries.{entries}
use Rattle.us_calendar.specs.Calendars.{pace_of}
use Rattle.us_calendar.proofs.OnceLaws.{settled_once}
use Rattle.us_calendar.proofs.SortedLemmas.{entries_ordered, entries_windows}
use Rattle.us_calendar.proofs.laws.settled_once.Goals as goal

pub returns : goal.returns
returns c = λ t channel cuts boards lawful.
    settled_once (pace_of t channel) (entries t channel) cuts boards (entries_ordered t channel lawful)
    (entries_windows t channel lawful)
