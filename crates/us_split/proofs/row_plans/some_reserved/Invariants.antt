use Rattle.std.proofs.Common.{◌≡◌, drop}
use Rattle.us_split.specs.TurnRows.{some_reserved}
use Rattle.us_split.proofs.row_plans.some_reserved.Given as goal

-- nothing is reserved for the turns before
abbrev pub invariant-loop-place : goal.invariant-loop-place
invariant-loop-place l =
    some_reserved l.rows l.reserves (drop l.place-index l.askers) ≡ some_reserved l.rows l.reserves l.askers
