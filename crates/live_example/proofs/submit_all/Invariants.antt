use Rattle.std.proofs.Common.{◌≡◌}
use Rattle.live_example.proofs.submit_all.Given as goal

abbrev pub invariant-loop-bytes : goal.invariant-loop-bytes
invariant-loop-bytes l = l.seat.intake ≡ l.intake
