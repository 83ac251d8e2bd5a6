use Rattle.us_live.specs.Lives.{Feeds}
use Rattle.us_live.proofs.tests.threads.make.Given as goal

abbrev pub invariant-loop : goal.invariant-loop
invariant-loop g l = Feeds l.live l.intake l.seat
