use Rattle.std.proofs.Common.{◌≡◌, ℕ, suc, ◌∷◌, [], ◌++◌, ◌+◌, ◌<◌, length, take, ap, ◌∙◌, arith}
use Rattle.std.specs.Prelude.{slice_index}
use Rattle.std.proofs.lemmas.List.{take_more_set}
use Rattle.us_slots.specs.Lists.{added}
use Rattle.us_split.proofs.SecondPassLemmas.{added-more}
use Rattle.us_split.proofs.shares.add_up.Goals as goal

pub loop-i-preserved : goal.loop-i-preserved
loop-i-preserved c =
    let i : ℕ = c.loop-i.i in
    let within : i < length c.args.numbers.now = omega arith in
    let inside : i < length c.args.others.now = omega (arith, c.requires.others) in
    let next : suc i ≡ i + 1 = omega arith in
    let more : ℕ = slice_index c.args.numbers.now i + slice_index c.args.others.now i in
    take_more_set c.loop-i.sums i more (omega (arith, c.loop-i.auto.sums, c.requires.sums)) ∙
    ap (λ ns. ns ++ more ∷ []) c.loop-i.invariant ∙
    added-more c.args.numbers.now c.args.others.now i within inside ∙
    ap (λ n. added (take n c.args.numbers.now) (take n c.args.others.now)) next
