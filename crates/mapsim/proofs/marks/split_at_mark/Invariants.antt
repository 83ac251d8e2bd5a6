use Rattle.std.proofs.Common.{ℕ, ◌<◌}
use Rattle.mapsim.specs.Marks.{IsMark}
use Rattle.mapsim.proofs.marks.split_at_mark.Given as goal

-- no mark so far
abbrev pub invariant-loop-at : goal.invariant-loop-at
invariant-loop-at l = (earlier : ℕ) → earlier < l.at → ¬ IsMark l.text earlier
