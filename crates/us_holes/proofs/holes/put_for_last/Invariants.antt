use Rattle.std.proofs.Common.{◌≡◌, ◌-◌, ◌<◌, ◌≤◌, length}
use Rattle.std.specs.List.{remove}
use Rattle.us_holes.proofs.holes.put_for_last.Given as goal

-- but for the entry that is given up, the list is as it was
abbrev pub invariant-loop-at : goal.invariant-loop-at
invariant-loop-at l =
    (l.place ≤ l.at) × (l.at < length l.holes) × (remove l.holes l.at ≡ remove l.fn.holes (length l.fn.holes - 1))

abbrev pub decreases-loop-at : goal.decreases-loop-at
decreases-loop-at l = l.at
