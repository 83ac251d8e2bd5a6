use Rattle.std.proofs.Common.{length, ◌≤◌}
use Rattle.us_calendar.proofs.HearingLemmas.{NoneHear}
use Rattle.us_calendar.proofs.heard_entries.behind_heard.Given as goal

abbrev pub invariant-loop-to : goal.invariant-loop-to
invariant-loop-to l = record { inside : l.to ≤ length l.states; none : NoneHear l.states (λ p. l.to ≤ p) }

abbrev pub decreases-loop-to : goal.decreases-loop-to
decreases-loop-to l = l.to
