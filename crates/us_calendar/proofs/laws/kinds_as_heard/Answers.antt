use Rattle.us_calendar.specs.Entries.{entries}
use Rattle.us_calendar.specs.Calendars.{pace_of}
use Rattle.us_calendar.proofs.OnceLaws.{kinds_as_heard}
use Rattle.us_calendar.proofs.SortedLemmas.{entries_ordered, entries_windows}
use Rattle.us_calendar.proofs.laws.kinds_as_heard.Goals as goal

pub returns : goal.returns
returns c = λ t channel cuts boards lawful many.
    kinds_as_heard (pace_of t channel) (entries t channel) cuts boards (entries_ordered t channel lawful)
    (entries_windows t channel lawful) many
