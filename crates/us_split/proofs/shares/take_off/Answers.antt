use Rattle.std.proofs.Common.{◌≡◌, ℕ, suc, ◌∷◌, [], ◌++◌, ◌+◌, ◌-◌, ◌<◌, length, take, ap, ◌∙◌, arith}
use Rattle.std.specs.Prelude.{slice_index}
use Rattle.std.proofs.lemmas.List.{take_more_set}
use Rattle.us_split.specs.Plans.{minus}
use Rattle.us_split.proofs.SecondPassLemmas.{minus-more}
use Rattle.us_split.proofs.shares.take_off.Goals as goal

pub loop-i-preserved : goal.loop-i-preserved
loop-i-preserved c =
    let i : ℕ = c.loop-i.i in
    let within : i < length c.args.numbers.now = omega arith in
    let inside : i < length c.args.others.now = omega (arith, c.requires.others) in
    let next : suc i ≡ i + 1 = omega arith in
    take_more_set c.loop-i.left i c.saturating_sub.result (omega (arith, c.loop-i.auto.left, c.requires.left)) ∙
    ap (λ n. take i c.loop-i.left ++ n ∷ []) c.saturating_sub.ensures ∙
    ap (λ ns. ns ++ (slice_index c.args.numbers.now i - slice_index c.args.others.now i) ∷ []) c.loop-i.invariant ∙
    minus-more c.args.numbers.now c.args.others.now i within inside ∙
    ap (λ n. minus (take n c.args.numbers.now) (take n c.args.others.now)) next
