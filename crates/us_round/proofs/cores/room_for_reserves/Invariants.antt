use Rattle.std.proofs.Common.{◌≡◌, take}
use Rattle.std.specs.List.{AllByRecursion}
use Rattle.us_round.proofs.cores.room_for_reserves.Given as goal

-- the flows before have no minimum rate
abbrev pub invariant-loop-flow : goal.invariant-loop-flow
invariant-loop-flow l = AllByRecursion (λ flow. flow.min_rate ≡ 0) (take l.flow-index l.flows)
