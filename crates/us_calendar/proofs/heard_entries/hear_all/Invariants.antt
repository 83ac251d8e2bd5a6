use Rattle.std.proofs.Common.{◌-◌}
use Rattle.us_calendar.proofs.HearingLemmas.{Hearing}
use Rattle.us_calendar.proofs.heard_entries.hear_all.Given as goal

abbrev pub invariant-loop-place : goal.invariant-loop-place
invariant-loop-place l = Hearing l.cut l.fn.states l.states l.place l.places.to

abbrev pub decreases-loop-place : goal.decreases-loop-place
decreases-loop-place l = l.places.to - l.place
