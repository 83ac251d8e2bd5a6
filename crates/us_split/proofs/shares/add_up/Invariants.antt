use Rattle.std.proofs.Common.{◌≡◌, take}
use Rattle.us_slots.specs.Lists.{added}
use Rattle.us_split.proofs.shares.add_up.Given as goal

-- the sums so far
abbrev pub invariant-loop-i : goal.invariant-loop-i
invariant-loop-i l = take l.i l.sums ≡ added (take l.i l.numbers) (take l.i l.others)
