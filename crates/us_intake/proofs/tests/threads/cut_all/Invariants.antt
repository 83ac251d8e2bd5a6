use Rattle.std.proofs.Common.{◌≡◌}
use Rattle.us_intake.proofs.tests.threads.cut_all.Given as goal

abbrev pub invariant-loop : goal.invariant-loop
invariant-loop l = l.seat.intake ≡ l.intake
