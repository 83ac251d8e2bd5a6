use Rattle.std.proofs.Common.{◌≡◌, ℕ, List, ◌∷◌, ◌+◌, ◌<◌, drop, get_or, length, ap, ap₂, ◌∙◌, sym, arith}
use Rattle.std.proofs.lemmas.List.{drop_more}
use Rattle.std.proofs.lemmas.List.Elements.{All-from_recursion}
use Rattle.us_split.specs.PartialPlans.{PartialPlan}
use Rattle.us_split.specs.TurnRows.{partial_of, with_seconds}
use Rattle.us_split.proofs.RowPassLemmas.{one_second_more}
use Rattle.us_split.proofs.row_plans.plan_seconds.Goals as goal

pub loop-i-preserved : goal.loop-i-preserved
loop-i-preserved c =
    let i : ℕ = c.loop-i.i in
    let place : ℕ = get_or c.args.askers.now i 0 in
    let first : List ℕ = c.index-firsts-i.result in
    let some : i < length c.args.askers.now = omega arith in
    let here : drop i c.args.askers.now ≡ place ∷ drop (i + 1) c.args.askers.now = drop_more c.args.askers.now i 0 some in
    let there : drop i c.args.firsts.now ≡ first ∷ drop (i + 1) c.args.firsts.now =
    drop_more c.args.firsts.now i first (omega (arith, c.requires.one_each, some)) ∙
    ap (λ f. f ∷ drop (i + 1) c.args.firsts.now) (sym c.index-firsts-i.is) in
    let old : PartialPlan = partial_of c.loop-i.channels c.loop-i.allowances in
    let new : PartialPlan = partial_of c.plan_second.new.channels c.plan_second.new.allowances in
    let within : place < length c.args.rows.now =
    All-from_recursion (λ place. place < length c.args.rows.now) c.args.askers.now c.requires.askers i 0 some in
    record {
      planned =
          one_second_more c.args.rows.now c.args.outstanding.now (drop (i + 1) c.args.askers.now)
          (drop (i + 1) c.args.firsts.now) place (get_or c.args.outstanding.now c.cluster.result 0) c.index-rows-from.result
          first old new within
          (c.index-rows-from.is ∙ ap (λ n. get_or c.args.rows.now n c.index-rows-from.result) c.from.ensures)
          (ap (λ n. get_or c.args.outstanding.now n 0) c.cluster.ensures)
          c.in_ok-plan_second.ensures.plan ∙
          ap₂ (λ places firsts. with_seconds c.args.rows.now c.args.outstanding.now places firsts old) (sym here) (sym there) ∙
          c.loop-i.invariant.planned;
      kept = c.plan_second.ensures.kept ∙ c.loop-i.invariant.kept;
    }
