use Rattle.std.proofs.Common.{◌≡◌, ◌*◌, ◌≤◌, take}
use Rattle.std.specs.Prelude.{sum}
use Rattle.us_split.proofs.divisions.sum_of.Given as goal

-- the weights so far
abbrev pub invariant-loop-weight : goal.invariant-loop-weight
invariant-loop-weight l =
    (l.total ≡ sum (take l.weight-index l.weights)) × (l.total ≤ 4294967295 * l.weight-index)
