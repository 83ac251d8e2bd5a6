use Rattle.std.proofs.Common.{◌≡◌, ◌-◌, ◌*◌, ◌/◌, ◌++◌, take, drop, map}
use Rattle.std.specs.Prelude.{sum}
use Rattle.us_split.specs.Divisions.{topped_up}
use Rattle.us_split.proofs.divisions.top_up.Given as goal

-- what is still to be written leads to the same, and the parts of the other channels are still there
abbrev pub invariant-loop-i : goal.invariant-loop-i
invariant-loop-i l = record {
  topped : take l.i l.shares ++ topped_up l.left (map (λ w. (l.bytes * w / l.total, w)) (drop l.i l.weights)) ≡
      topped_up (l.bytes - sum (map (λ w. l.bytes * w / l.total) l.weights))
      (map (λ w. (l.bytes * w / l.total, w)) l.weights);
  parts : drop l.i l.shares ≡ map (λ w. l.bytes * w / l.total) (drop l.i l.weights);
}
