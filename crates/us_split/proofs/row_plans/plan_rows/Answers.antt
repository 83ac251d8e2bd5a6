use Rattle.std.proofs.Common.{◌≡◌, ℕ, ◌∷◌, ◌+◌, ◌<◌, drop, get_or, length, ap, ◌∙◌, sym}
use Rattle.std.proofs.lemmas.List.{drop_more}
use Rattle.std.proofs.lemmas.List.Elements.{All-from_recursion}
use Rattle.us_split.specs.PartialPlans.{PartialPlan}
use Rattle.us_split.specs.TurnRows.{partial_of, with_rows}
use Rattle.us_split.proofs.FullLaws.{none_further}
use Rattle.us_split.proofs.RowPlanLemmas.{one_row_more}
use Rattle.us_split.proofs.row_plans.plan_rows.Goals as goal
use Rattle.us_split.proofs.row_plans.plan_rows.Goals.{After-none_left}

-- the turns that are still to come plan further
planned : (c : After-none_left) →
    with_rows c.args.rows.now c.args.outstanding.now (drop (c.loop-place.place-index + 1) c.args.askers.now)
    (partial_of c.plan_row.new.channels c.plan_row.new.allowances) ≡
    with_rows c.args.rows.now c.args.outstanding.now c.args.askers.now (partial_of c.args.channels.now c.args.allowances.now)
planned c =
    let i : ℕ = c.loop-place.place-index in
    let here : drop i c.args.askers.now ≡ get_or c.args.askers.now i 0 ∷ drop (i + 1) c.args.askers.now =
    drop_more c.args.askers.now i 0 c.loop-place-test.true in
    let old : PartialPlan = partial_of c.loop-place.channels c.loop-place.allowances in
    let new : PartialPlan = partial_of c.plan_row.new.channels c.plan_row.new.allowances in
    let within : get_or c.args.askers.now i 0 < length c.args.rows.now =
    All-from_recursion (λ place. place < length c.args.rows.now) c.args.askers.now c.requires.askers i 0 c.loop-place-test.true in
    one_row_more c.args.rows.now c.args.outstanding.now (drop (i + 1) c.args.askers.now) (get_or c.args.askers.now i 0)
    (get_or c.args.outstanding.now c.cluster.result 0) c.index-rows-from.result old new within
    (c.index-rows-from.is ∙ ap (λ n. get_or c.args.rows.now n c.index-rows-from.result) c.from.ensures)
    (ap (λ n. get_or c.args.outstanding.now n 0) c.cluster.ensures)
    c.in_ok-plan_row.ensures.plan ∙
    ap (λ places. with_rows c.args.rows.now c.args.outstanding.now places old) (sym here) ∙
    c.loop-place.invariant.planned

pub returns-then-none_left-clause-plan : goal.returns-then-none_left-clause-plan
returns-then-none_left-clause-plan c =
    none_further c.args.rows.now c.args.outstanding.now (drop (c.loop-place.place-index + 1) c.args.askers.now)
    c.plan_row.new.channels c.plan_row.new.allowances c.if-none_left.ensures.1 ∙
    planned (goal.at.returns-then-none_left-clause-plan c).After-none_left

pub loop-place-preserved : goal.loop-place-preserved
loop-place-preserved c = record {
  planned = planned (goal.at.loop-place-preserved c).After-none_left;
  kept = c.plan_row.ensures.kept ∙ c.loop-place.invariant.kept;
}
