use Rattle.std.proofs.Common.{◌≡◌, take}
use Rattle.us_split.specs.Plans.{minus}
use Rattle.us_split.proofs.shares.take_off.Given as goal

-- what is left so far
abbrev pub invariant-loop-i : goal.invariant-loop-i
invariant-loop-i l = take l.i l.left ≡ minus (take l.i l.numbers) (take l.i l.others)
