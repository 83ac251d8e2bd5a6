use Rattle.us_live.specs.Lives.{Feeds}
use Rattle.live_example.proofs.make_rounds.Given as goal

abbrev pub invariant-loop : goal.invariant-loop
invariant-loop g l = Feeds l.live l.intake l.seat
