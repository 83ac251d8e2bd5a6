use Rattle.std.proofs.Common.{◌≡◌, ℕ, List, [], ◌∷◌, ◌++◌, ◌+◌, ◌<◌, drop, get_or, length, refl, ap, ◌∙◌, sym, arith}
use Rattle.std.proofs.lemmas.List.{drop_more, length-append}
use Rattle.std.proofs.lemmas.List.Elements.{All-from_recursion}
use Rattle.us_split.specs.TurnRows.{FirstPass, pass_of, with_firsts}
use Rattle.us_split.proofs.RowPassLemmas.{firsts_more, one_first_more}
use Rattle.us_split.proofs.row_plans.plan_firsts.Goals as goal

pub loop-place-preserved : goal.loop-place-preserved
loop-place-preserved c =
    let i : ℕ = c.loop-place.place-index in
    let place : ℕ = get_or c.args.askers.now i 0 in
    let here : drop i c.args.askers.now ≡ place ∷ drop (i + 1) c.args.askers.now =
    drop_more c.args.askers.now i 0 c.loop-place-test.true in
    let firsts : List (List ℕ) = c.loop-place.firsts.items in
    let shares : List ℕ = c.plan_first-shares.result in
    let old : FirstPass = pass_of c.loop-place.channels c.loop-place.allowances c.loop-place.reserves firsts in
    let new : List (List ℕ) → FirstPass = λ items.
    pass_of c.plan_first-shares.new.channels c.plan_first-shares.new.allowances c.plan_first-shares.new.reserves items in
    let within : place < length c.args.rows.now =
    All-from_recursion (λ place. place < length c.args.rows.now) c.args.askers.now c.requires.askers i 0 c.loop-place-test.true in
    let row = c.index-rows-from.is ∙ ap (λ n. get_or c.args.rows.now n c.index-rows-from.result) c.from.ensures in
    record {
      pass =
          ap (λ items. with_firsts c.args.rows.now c.args.outstanding.now (drop (i + 1) c.args.askers.now) (new items))
          c.in_ok-push.ensures.items ∙
          one_first_more c.args.rows.now c.args.outstanding.now (drop (i + 1) c.args.askers.now) place
          (get_or c.args.outstanding.now c.cluster.result 0) c.index-rows-from.result old (new (firsts ++ shares ∷ [])) within row
          (ap (λ n. get_or c.args.outstanding.now n 0) c.cluster.ensures)
          (c.plan_first-shares.ensures.pass firsts) ∙
          ap (λ places. with_firsts c.args.rows.now c.args.outstanding.now places old) (sym here) ∙
          c.loop-place.invariant.pass;
      fit = firsts_more c.args.rows.now c.args.askers.now firsts c.push.new.self.items shares place i c.index-rows-from.result
          c.loop-place.invariant.fit c.loop-place.invariant.one_each refl within row c.plan_first-shares.ensures.fits
          c.in_ok-push.ensures.items;
      one_each = omega (arith, ap length c.in_ok-push.ensures.items, length-append firsts (shares ∷ []), c.loop-place.invariant.one_each);
      kept = c.plan_first-shares.ensures.kept ∙ c.loop-place.invariant.kept;
    }
