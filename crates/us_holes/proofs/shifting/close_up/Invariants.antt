use Rattle.std.proofs.Common.{◌≡◌, ◌-◌, ◌<◌, length}
use Rattle.std.specs.List.{remove}
use Rattle.us_holes.proofs.shifting.close_up.Given as goal

-- but for the entry that is given up, the list is as it was
abbrev pub invariant-loop-at : goal.invariant-loop-at
invariant-loop-at g l =
    (l.at < length l.list) × (length l.list ≡ length l.fn.list) × (remove l.list l.at ≡ remove l.fn.list l.place)

abbrev pub decreases-loop-at : goal.decreases-loop-at
decreases-loop-at g l = length l.list - l.at
