use Rattle.us_calendar.specs.Entries.{entries}
use Rattle.us_calendar.specs.Calendars.{pace_of}
use Rattle.us_calendar.proofs.ByCutsLaws.{settles_by_cuts}
use Rattle.us_calendar.proofs.SortedLemmas.{entries_ordered, entries_windows}
use Rattle.us_calendar.proofs.laws.settles_by_cuts.Goals as goal

pub returns : goal.returns
returns c = λ t channel cuts boards cut board lawful many.
    settles_by_cuts (pace_of t channel) (entries t channel) cuts boards cut board (entries_ordered t channel lawful)
    (entries_windows t channel lawful) many
