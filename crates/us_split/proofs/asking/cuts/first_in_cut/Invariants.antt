use Rattle.std.proofs.Common.{◌-◌, ◌≤◌, length}
use Rattle.us_split.specs.Askers.{HasNothing}
use Rattle.us_split.proofs.asking.cuts.first_in_cut.Given as goal

abbrev pub invariant-loop-at : goal.invariant-loop-at
invariant-loop-at l = record {
  order : l.from ≤ l.at;
  inside : l.at ≤ length l.cut;
  none : HasNothing l.cut l.from l.at;
}

abbrev pub decreases-loop-at : goal.decreases-loop-at
decreases-loop-at l = length l.cut - l.at
