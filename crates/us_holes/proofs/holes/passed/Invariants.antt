use Rattle.std.proofs.Common.{◌≡◌, drop}
use Rattle.us_holes.specs.Lists as lists
use Rattle.us_holes.proofs.holes.passed.Given as goal

-- no hole so far has room
abbrev pub invariant-loop-i : goal.invariant-loop-i
invariant-loop-i l = lists.fit l.i l.from l.to l.slots (drop l.i l.holes) ≡ lists.fit 0 l.from l.to l.slots l.holes
