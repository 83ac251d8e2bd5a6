use Rattle.std.proofs.Common.{◌≡◌, ◌≤◌, ◌-◌, ◌*◌, ◌/◌, take, drop, map}
use Rattle.std.specs.Prelude.{sum}
use Rattle.us_split.proofs.divisions.write_few.Given as goal

-- the parts so far; what the other channels will take is there, and leaves the same
abbrev pub invariant-loop-i : goal.invariant-loop-i
invariant-loop-i l = record {
  parts : take l.i l.parts ≡ map (λ w. l.bytes * w / l.total) (take l.i l.weights);
  left : l.left - sum (map (λ w. l.bytes * w / l.total) (drop l.i l.weights)) ≡
      l.bytes - sum (map (λ w. l.bytes * w / l.total) l.weights);
  enough : sum (map (λ w. l.bytes * w / l.total) (drop l.i l.weights)) ≤ l.left;
}
