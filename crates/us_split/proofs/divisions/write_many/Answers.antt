use Rattle.std.proofs.Common.{◌≡◌, ℕ, ◌+◌, ◌-◌, ◌*◌, ◌/◌, ◌<◌, ◌≤◌, get_or, length, drop, map, refl, ap, ◌∙◌, sym, arith}
use Rattle.std.specs.Prelude.{sum}
use Rattle.std.proofs.lemmas.List.{take_all}
use Rattle.us_split.proofs.DivisionLemmas.{left_enough, left_more, parts-fit, parts_more}
use Rattle.us_split.proofs.divisions.write_many.Goals as goal

pub loop-i-init : goal.loop-i-init
loop-i-init c = record {
  parts = refl;
  left = refl;
  enough = parts-fit c.args.bytes c.args.total c.args.weights.now c.requires.total c.requires.below;
}

pub loop-i-preserved : goal.loop-i-preserved
loop-i-preserved c =
    let f : ℕ → ℕ = λ w. c.args.bytes * w / c.args.total in
    let i : ℕ = c.loop-i.i in
    let within : i < length c.args.weights.now = omega arith in
    let inside : i < length c.loop-i.parts = omega (arith, c.loop-i.auto.parts, c.requires.same_length) in
    let more = left_more f c.loop-i.left i c.args.weights.now 0 within in
    let enough = left_enough f c.loop-i.left i c.args.weights.now within c.loop-i.invariant.enough in
    let part : c.loop-i.left - c.from-left.result ≡ c.loop-i.left - f (get_or c.args.weights.now i 0) =
    ap (λ n. c.loop-i.left - n) (c.from-left.ensures ∙ c.part_of-part.ensures.value) in
    record {
      parts = parts_more f c.loop-i.parts c.args.weights.now i c.part_of-part.result within inside c.loop-i.invariant.parts
          c.part_of-part.ensures.value;
      left = ap (λ n. n - sum (map f (drop (i + 1) c.args.weights.now))) part ∙ more ∙ c.loop-i.invariant.left;
      enough = omega (arith, part, enough);
    }

pub returns-clause-parts : goal.returns-clause-parts
returns-clause-parts c =
    let f : ℕ → ℕ = λ w. c.args.bytes * w / c.args.total in
    let i : ℕ = c.loop-i.i in
    let past : length c.args.weights.now ≤ i = omega arith in
    let over : length c.loop-i.parts ≤ i = omega (arith, c.loop-i.auto.parts, c.requires.same_length) in
    sym (take_all i c.loop-i.parts over) ∙ c.loop-i.invariant.parts ∙ ap (map f) (take_all i c.args.weights.now past)
