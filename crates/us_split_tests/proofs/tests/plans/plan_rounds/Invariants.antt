use Rattle.std.proofs.Common.{◌≡◌}
use Rattle.us_split_tests.proofs.tests.plans.plan_rounds.Given as goal

-- the tables stay
abbrev pub invariant-loop-round : goal.invariant-loop-round
invariant-loop-round g l = l.planner.tables ≡ l.config
