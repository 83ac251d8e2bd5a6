use Rattle.std.proofs.Common.{length, ◌-◌, ◌<◌}
use Rattle.us_calendar.proofs.HearingLemmas.{NoneHear}
use Rattle.us_calendar.proofs.heard_entries.first_heard.Given as goal

abbrev pub invariant-loop-from : goal.invariant-loop-from
invariant-loop-from l = NoneHear l.states (λ p. p < l.from)

abbrev pub decreases-loop-from : goal.decreases-loop-from
decreases-loop-from l = length l.states - l.from
