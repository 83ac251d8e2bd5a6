use Rattle.std.proofs.Common.{◌≡◌, ◌+◌, ◌-◌, ◌≤◌, length, replicate, take, drop, sym, ap, ◌∙◌, arith}
use Rattle.std.proofs.lemmas.List.{length-drop, length-take-le}
use Rattle.us_split.proofs.AskerCutLemmas.{idle_more}
use Rattle.us_split.proofs.asking.cuts.past_idle.Goals as goal

pub loop-at-preserved : goal.loop-at-preserved
loop-at-preserved c =
    let at = c.loop-at.at in
    let cut = c.args.cut.now in
    let eight : at + 8 - at ≡ 8 = omega arith in
    let inside : at + 8 ≤ length cut = omega (arith, c.loop-at.invariant.inside, c.loop-at-test.true) in
    let each : length (take (at + 8 - at) (drop at cut)) ≡ 8 =
    length-take-le (at + 8 - at) (drop at cut) (omega (arith, eight, length-drop at cut, inside)) ∙ eight in
    record {
      order = omega (arith, c.loop-at.invariant.order);
      inside = inside;
      none = idle_more cut c.args.from at 8 c.loop-at.invariant.none
          (ap (λ n. take n (drop at cut)) (sym eight) ∙ c.if-are_idle.ensures ∙ ap (λ n. replicate n 0) each);
    }
