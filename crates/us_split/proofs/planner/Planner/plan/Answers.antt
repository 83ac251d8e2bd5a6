use Rattle.std.proofs.Common.{rules, ◌≡◌, List, length, map, ap, ap₂, ◌∙◌}
use Rattle.std.specs.Vec.{with_items}
use Rattle.std.proofs.lemmas.List.{places, with_items_is}
use Rattle.us_flows.specs.declared.channels.Channel.{Channel}
use Rattle.us_flows.specs.Tables.{Tables}
use Rattle.us_split.specs.PartialPlans.{ChannelPlan}
use Rattle.us_split.specs.Planners.{Planner}
use Rattle.us_split.specs.TurnRows.{IsPlanning, first_pass, last_pass, partial_of}
use Rattle.us_split.proofs.ClaimLemmas.{plan_for-claims}
use Rattle.us_split.proofs.RowTwoPassLemmas.{claims_of_round, reserves_of_round}
use Rattle.us_split.proofs.TwoPassLaws.{plan_for-lawful, reserved-within}
use Rattle.us_split.proofs.RowPlanLemmas.{askers_ready, words_ready, idle_within, own_length, planning_after, rows_ready, told}
use Rattle.us_split.proofs.planner.Planner.plan.Goals as goal

abbrev tables_in : Planner → Tables
tables_in p = p.tables

abbrev channels_in : List ChannelPlan → List Channel
channels_in cs = map (λ c. c.channel) cs

pub clear_all-requires-clause-within : goal.clear_all-requires-clause-within
clear_all-requires-clause-within c =
    let t : Tables = c.args.self.now.tables in
    let is : IsPlanning t c.self.inside.rows.items c.self.inside.channels.items =
    told c.self.inside.tables.value t c.self.inside.rows.items c.self.inside.channels.items
    (ap tables_in c.self.view_is) c.self.invariant in
    idle_within t c.as_mut_slice-channels.result.now c.args.idle.now is.lawful c.requires.idle
    (ap channels_in c.as_mut_slice-channels.ensures.value ∙ is.own)

pub plan_passes-requires-clause-rows : goal.plan_passes-requires-clause-rows
plan_passes-requires-clause-rows c =
    let t : Tables = c.args.self.now.tables in
    let is : IsPlanning t c.self.inside.rows.items c.self.inside.channels.items =
    told c.self.inside.tables.value t c.self.inside.rows.items c.self.inside.channels.items
    (ap tables_in c.self.view_is) c.self.invariant in
    rows_ready t c.deref.result.now (length c.args.allowances.now) (length c.clear_all.new.channels) is.lawful
    (c.deref.ensures.value ∙ is.turns) c.requires.flows
    (c.clear_all.auto.channels ∙ ap length c.as_mut_slice-channels.ensures.value ∙ own_length t c.self.inside.channels.items is.own)

pub plan_passes-requires-clause-clusters : goal.plan_passes-requires-clause-clusters
plan_passes-requires-clause-clusters c =
    let t : Tables = c.args.self.now.tables in
    let is : IsPlanning t c.self.inside.rows.items c.self.inside.channels.items =
    told c.self.inside.tables.value t c.self.inside.rows.items c.self.inside.channels.items
    (ap tables_in c.self.view_is) c.self.invariant in
    words_ready t c.deref.result.now (length c.args.outstanding.now) (c.deref.ensures.value ∙ is.turns) c.requires.words

pub plan_passes-requires-clause-askers : goal.plan_passes-requires-clause-askers
plan_passes-requires-clause-askers c =
    let t : Tables = c.args.self.now.tables in
    let is : IsPlanning t c.self.inside.rows.items c.self.inside.channels.items =
    told c.self.inside.tables.value t c.self.inside.rows.items c.self.inside.channels.items
    (ap tables_in c.self.view_is) c.self.invariant in
    askers_ready t c.deref.result.now c.args.outstanding.now c.args.askers.now (c.deref.ensures.value ∙ is.turns)
    c.requires.askers

pub invariant_of-self : goal.invariant_of-self
invariant_of-self c =
    let long : length c.plan_passes.new.channels ≡ c.self.inside.channels.len = search (rules, places) in
    planning_after c.self.inside.tables.value c.args.self.now.tables c.self.inside.rows.items c.args.idle.now
    c.self.inside.channels.items c.as_mut_slice-channels.result.now c.clear_all.new.channels c.plan_passes.new.channels
    (with_items c.self.inside.channels c.plan_passes.new.channels).items (ap tables_in c.self.view_is) c.self.invariant
    c.requires.idle c.as_mut_slice-channels.ensures.value c.clear_all.ensures c.plan_passes.ensures.kept
    (with_items_is c.self.inside.channels c.plan_passes.new.channels long)

pub invariant_of-self-2 : goal.invariant_of-self-2
invariant_of-self-2 c =
    let long : length c.plan_passes.new.channels ≡ c.self.inside.channels.len = search (rules, places) in
    planning_after c.self.inside.tables.value c.args.self.now.tables c.self.inside.rows.items c.args.idle.now
    c.self.inside.channels.items c.as_mut_slice-channels.result.now c.clear_all.new.channels c.plan_passes.new.channels
    (with_items c.self.inside.channels c.plan_passes.new.channels).items (ap tables_in c.self.view_is) c.self.invariant
    c.requires.idle c.as_mut_slice-channels.ensures.value c.clear_all.ensures c.plan_passes.ensures.kept
    (with_items_is c.self.inside.channels c.plan_passes.new.channels long)

pub returns-clause-claims : goal.returns-clause-claims
returns-clause-claims c = λ allowed kept agree.
    let t : Tables = c.args.self.now.tables in
    let is : IsPlanning t c.self.inside.rows.items c.self.inside.channels.items =
    told c.self.inside.tables.value t c.self.inside.rows.items c.self.inside.channels.items
    (ap tables_in c.self.view_is) c.self.invariant in
    let long : length c.plan_passes.new.channels ≡ c.self.inside.channels.len = search (rules, places) in
    ap (λ (cs : List ChannelPlan). map (λ c. c.claims) cs)
    (with_items_is c.self.inside.channels c.plan_passes.new.channels long) ∙
    claims_of_round t c.args.outstanding.now c.args.askers.now c.args.idle.now c.args.allowances.now allowed
    c.args.reserves.now kept c.as_mut_slice-channels.result.now is.lawful c.requires.idle c.requires.flows
    (ap channels_in c.as_mut_slice-channels.ensures.value ∙ is.own) c.requires.askers agree
    c.plan_passes.new.allowances c.plan_passes.new.channels
    (c.in_ok-plan_passes.ensures.plan ∙
    ap₂ (λ rows cs. last_pass rows c.args.outstanding.now c.args.askers.now (partial_of cs c.args.allowances.now) c.args.reserves.now)
    (c.deref.ensures.value ∙ is.turns) c.clear_all.ensures)

pub returns-clause-reserves : goal.returns-clause-reserves
returns-clause-reserves c = λ allowed kept agree.
    let t : Tables = c.args.self.now.tables in
    let is : IsPlanning t c.self.inside.rows.items c.self.inside.channels.items =
    told c.self.inside.tables.value t c.self.inside.rows.items c.self.inside.channels.items
    (ap tables_in c.self.view_is) c.self.invariant in
    reserves_of_round t c.args.outstanding.now c.args.askers.now c.args.idle.now c.args.allowances.now allowed
    c.args.reserves.now kept c.as_mut_slice-channels.result.now is.lawful c.requires.idle c.requires.flows
    (ap channels_in c.as_mut_slice-channels.ensures.value ∙ is.own) c.requires.askers agree
    c.plan_passes.new.reserves
    (c.in_ok-plan_passes.ensures.reserves ∙
    ap₂ (λ rows cs. (first_pass rows c.args.outstanding.now c.args.askers.now (partial_of cs c.args.allowances.now) c.args.reserves.now).reserves)
    (c.deref.ensures.value ∙ is.turns) c.clear_all.ensures)

pub returns-clause-law : goal.returns-clause-law
returns-clause-law c = λ allowed kept.
    let t : Tables = c.args.self.now.tables in
    let is : IsPlanning t c.self.inside.rows.items c.self.inside.channels.items =
    told c.self.inside.tables.value t c.self.inside.rows.items c.self.inside.channels.items
    (ap tables_in c.self.view_is) c.self.invariant in
    plan_for-lawful t c.args.outstanding.now allowed kept c.args.idle.now is.lawful c.requires.idle

pub returns-clause-bursts : goal.returns-clause-bursts
returns-clause-bursts c = λ allowed kept.
    let t : Tables = c.args.self.now.tables in
    let is : IsPlanning t c.self.inside.rows.items c.self.inside.channels.items =
    told c.self.inside.tables.value t c.self.inside.rows.items c.self.inside.channels.items
    (ap tables_in c.self.view_is) c.self.invariant in
    plan_for-claims t c.args.outstanding.now allowed kept c.args.idle.now is.lawful c.requires.idle

pub returns-clause-within : goal.returns-clause-within
returns-clause-within c = λ allowed kept.
    reserved-within c.args.self.now.tables c.args.outstanding.now allowed kept c.args.idle.now

pub returns-in_err-plan_passes-clause-law : goal.returns-in_err-plan_passes-clause-law
returns-in_err-plan_passes-clause-law c = λ allowed kept.
    let t : Tables = c.args.self.now.tables in
    let is : IsPlanning t c.self.inside.rows.items c.self.inside.channels.items =
    told c.self.inside.tables.value t c.self.inside.rows.items c.self.inside.channels.items
    (ap tables_in c.self.view_is) c.self.invariant in
    plan_for-lawful t c.args.outstanding.now allowed kept c.args.idle.now is.lawful c.requires.idle

pub returns-in_err-plan_passes-clause-bursts : goal.returns-in_err-plan_passes-clause-bursts
returns-in_err-plan_passes-clause-bursts c = λ allowed kept.
    let t : Tables = c.args.self.now.tables in
    let is : IsPlanning t c.self.inside.rows.items c.self.inside.channels.items =
    told c.self.inside.tables.value t c.self.inside.rows.items c.self.inside.channels.items
    (ap tables_in c.self.view_is) c.self.invariant in
    plan_for-claims t c.args.outstanding.now allowed kept c.args.idle.now is.lawful c.requires.idle

pub returns-in_err-plan_passes-clause-within : goal.returns-in_err-plan_passes-clause-within
returns-in_err-plan_passes-clause-within c = λ allowed kept.
    reserved-within c.args.self.now.tables c.args.outstanding.now allowed kept c.args.idle.now
