use Rattle.std.proofs.Common.{◌≡◌}
use Rattle.us_live.proofs.tests.threads.submit_all.Given as goal

abbrev pub invariant-loop-bytes : goal.invariant-loop-bytes
invariant-loop-bytes l = l.seat.intake ≡ l.intake
