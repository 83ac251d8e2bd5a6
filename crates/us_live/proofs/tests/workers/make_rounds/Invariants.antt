use Rattle.std.specs.Prelude.{◌≡◌}
use Rattle.us_live.specs.Lives.{Feeds}
use Rattle.us_live.proofs.tests.workers.make_rounds.Given as goal

abbrev pub invariant-loop-round : goal.invariant-loop-round
invariant-loop-round g l = Feeds l.live l.intake l.first × (l.second.intake ≡ l.intake)
