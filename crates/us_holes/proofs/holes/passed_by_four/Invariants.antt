use Rattle.std.proofs.Common.{◌≡◌, ◌-◌, ◌≤◌, length, drop}
use Rattle.us_holes.specs.Lists as lists
use Rattle.us_holes.proofs.holes.passed_by_four.Given as goal

-- no hole so far has room
abbrev pub invariant-loop-at : goal.invariant-loop-at
invariant-loop-at l =
    (l.at ≤ length l.holes)
    × (lists.fit l.at l.from l.to l.slots (drop l.at l.holes) ≡ lists.fit 0 l.from l.to l.slots l.holes)

abbrev pub decreases-loop-at : goal.decreases-loop-at
decreases-loop-at l = length l.holes - l.at
