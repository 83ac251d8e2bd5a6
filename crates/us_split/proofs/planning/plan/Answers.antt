use Rattle.std.proofs.Common.{rules, ◌≡◌, length, ap, ◌∙◌, arith}
use Rattle.std.specs.Prelude.{slice_index}
use Rattle.std.proofs.lemmas.List.{places, with_items_is}
use Rattle.us_flows.specs.Clusters.{turns_of}
use Rattle.us_flows.specs.Tables.{Tables}
use Rattle.us_split.specs.Asking.{turns_at}
use Rattle.us_split.specs.Claims.{all_claims, share_of}
use Rattle.us_split.specs.Planners.{Planner}
use Rattle.us_split.specs.Plans.{plan_for, reserved_for}
use Rattle.us_split.proofs.AskingLaws.{same_agree}
use Rattle.us_split.proofs.ClaimLemmas.{plan_for-claims, share_of-plan}
use Rattle.us_split.proofs.MinRateLemmas.{reserved_within}
use Rattle.us_split.proofs.TwoPassLaws.{reserved-within}
use Rattle.us_split.proofs.planning.plan.Goals as goal

pub returns-in_err-askers-clause-claims : goal.returns-in_err-askers-clause-claims
returns-in_err-askers-clause-claims c =
    plan_for-claims c.args.config.now c.args.outstanding.now c.args.allowances.now c.args.reserves.now c.args.idle.now
    c.flows-flows.ensures.lawful c.requires.idle

pub returns-in_err-planner-clause-claims : goal.returns-in_err-planner-clause-claims
returns-in_err-planner-clause-claims c =
    plan_for-claims c.args.config.now c.args.outstanding.now c.args.allowances.now c.args.reserves.now c.args.idle.now
    c.flows-flows.ensures.lawful c.requires.idle

pub returns-in_err-allowed-clause-claims : goal.returns-in_err-allowed-clause-claims
returns-in_err-allowed-clause-claims c =
    plan_for-claims c.args.config.now c.args.outstanding.now c.args.allowances.now c.args.reserves.now c.args.idle.now
    c.flows-flows.ensures.lawful c.requires.idle

pub returns-in_err-left-clause-claims : goal.returns-in_err-left-clause-claims
returns-in_err-left-clause-claims c =
    plan_for-claims c.args.config.now c.args.outstanding.now c.args.allowances.now c.args.reserves.now c.args.idle.now
    c.flows-flows.ensures.lawful c.requires.idle

pub returns-in_err-plan-clause-claims : goal.returns-in_err-plan-clause-claims
returns-in_err-plan-clause-claims c =
    plan_for-claims c.args.config.now c.args.outstanding.now c.args.allowances.now c.args.reserves.now c.args.idle.now
    c.flows-flows.ensures.lawful c.requires.idle

pub returns-in_err-reserved-clause-claims : goal.returns-in_err-reserved-clause-claims
returns-in_err-reserved-clause-claims c =
    plan_for-claims c.args.config.now c.args.outstanding.now c.args.allowances.now c.args.reserves.now c.args.idle.now
    c.flows-flows.ensures.lawful c.requires.idle

pub returns-clause-claims : goal.returns-clause-claims
returns-clause-claims c =
    plan_for-claims c.args.config.now c.args.outstanding.now c.args.allowances.now c.args.reserves.now c.args.idle.now
    c.flows-flows.ensures.lawful c.requires.idle

abbrev tables_in : Planner → Tables
tables_in p = p.tables

pub returns-clause-value : goal.returns-clause-value
returns-clause-value c =
    let t : Tables = c.args.config.now in
    let own : Tables = c.in_ok-planner.planner.tables in
    let same : own ≡ t = ap tables_in c.in_ok-planner.ensures in
    let agree = same_agree (turns_at (turns_of own) c.deref.result.now) c.deref_mut.result.now c.args.allowances.now
    c.deref_mut-2.result.now c.args.reserves.now (c.deref_mut.ensures.value ∙ c.in_ok-allowed.ensures.items)
    (c.deref_mut-2.ensures.value ∙ c.in_ok-left.ensures.items) in
    c.new-2.ensures.claims ∙ c.into_channels.ensures ∙
    c.in_ok-plan.ensures.claims c.args.allowances.now c.args.reserves.now agree ∙
    ap (λ t. all_claims t (plan_for t c.args.outstanding.now c.args.allowances.now c.args.reserves.now c.args.idle.now)) same

pub returns-clause-reserved : goal.returns-clause-reserved
returns-clause-reserved c = λ flow within.
    let t : Tables = c.args.config.now in
    let own : Tables = c.in_ok-planner.planner.tables in
    let same : own ≡ t = ap tables_in c.in_ok-planner.ensures in
    let held = c.deref_mut-2.ensures.value ∙ c.in_ok-left.ensures.items in
    let agree = same_agree (turns_at (turns_of own) c.deref.result.now) c.deref_mut.result.now c.args.allowances.now
    c.deref_mut-2.result.now c.args.reserves.now (c.deref_mut.ensures.value ∙ c.in_ok-allowed.ensures.items) held in
    let long : length c.plan.new.reserves ≡ c.in_ok-left.left.len = search (rules, places) in
    omega (
      arith,
      ap (λ xs. slice_index xs flow) c.new-2.ensures.reserved,
      c.in_ok-reserved.ensures.taken flow (omega (arith, within, ap length c.flows-flows.ensures.value)),
      ap (λ xs. slice_index xs flow) (c.deref-2.ensures.value ∙ with_items_is c.in_ok-left.left c.plan.new.reserves long),
      c.in_ok-plan.ensures.reserves c.args.allowances.now c.args.reserves.now agree flow,
      ap (λ xs. slice_index xs flow) held,
      ap (λ t. reserved_for t c.args.outstanding.now c.args.allowances.now c.args.reserves.now c.args.idle.now flow) same,
      reserved-within t c.args.outstanding.now c.args.allowances.now c.args.reserves.now c.args.idle.now flow
          (omega (arith, within, c.requires.flows)),
      reserved_within t.flows c.args.reserves.now flow,
    )

pub returns-clause-shares : goal.returns-clause-shares
returns-clause-shares c = λ turn position.
    ap (λ claims. share_of claims turn position) (returns-clause-value c) ∙
    share_of-plan c.args.config.now c.args.outstanding.now c.args.allowances.now c.args.reserves.now c.args.idle.now
    c.flows-flows.ensures.lawful c.requires.idle turn position
