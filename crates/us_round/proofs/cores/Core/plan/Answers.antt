use Rattle.std.proofs.Common.{◌≡◌, ℕ, ◌<◌, List, Option, length, map, Some, sym, ap, ap₂, subst, ◌∙◌, arith}
use Rattle.std.specs.List.{AllByRecursion}
use Rattle.std.specs.Vec.{with_items}
use Rattle.std.proofs.lemmas.List.{length-map, with_items_is}
use Rattle.std.specs.Arc.{arc_value}
use Rattle.us_flows.specs.Clusters.{turns_of}
use Rattle.us_flows.specs.Turns.{turn_at}
use Rattle.us_bucket.specs.Levels.{bytes_in, reserve_in}
use Rattle.us_split.specs.Asking.{AgreeOn, asking_in, numbers_of, turns_at}
use Rattle.us_round.specs.Cores.{IsRoom, planned_core}
use Rattle.us_round.proofs.AskingLemmas.{askers_inside, flows_inside}
use Rattle.us_round.proofs.CoreLemmas.{core_in, kept_too, claims_over, planned_kept, planned_value, reserves_over}
use Rattle.us_round.proofs.NoRateLemmas.{as_long, left_room}
use Rattle.us_round.proofs.ReserveLemmas.{agree, left-is, left-length}
use Rattle.us_round.proofs.cores.Core.plan.Goals as goal

pub allow-requires-clause-places : goal.allow-requires-clause-places
allow-requires-clause-places c =
    let a = c.as_mut.result.now in
    let kept = kept_too a c.self.inside.kept.value c.as_mut.ensures.value c.self.invariant in
    askers_inside (arc_value a.config) c.turns-turns.result.now a.askers.outstanding (numbers_of (turns_of a.askers.tables))
    c.asking-asking.result.now (rw c.deref.ensures at c.turns-turns.ensures.value) (ap (λ t. numbers_of (turns_of t)) kept.tables) c.asking-asking.ensures

pub allow-requires-clause-flows : goal.allow-requires-clause-flows
allow-requires-clause-flows c =
    let a = c.as_mut.result.now in
    let kept = kept_too a c.self.inside.kept.value c.as_mut.ensures.value c.self.invariant in
    subst (λ n. AllByRecursion (λ turn. turn.flow < n) c.turns-turns.result.now) (sym kept.buckets.flows)
    (flows_inside (arc_value a.config) c.turns-turns.result.now (turns_of (arc_value a.config)) (rw c.deref.ensures at c.turns-turns.ensures.value))

pub reserve-requires-clause-places : goal.reserve-requires-clause-places
reserve-requires-clause-places c =
    let a = c.as_mut.result.now in
    let kept = kept_too a c.self.inside.kept.value c.as_mut.ensures.value c.self.invariant in
    askers_inside (arc_value a.config) c.turns-turns.result.now a.askers.outstanding (numbers_of (turns_of a.askers.tables))
    c.asking-asking.result.now (rw c.deref.ensures at c.turns-turns.ensures.value) (ap (λ t. numbers_of (turns_of t)) kept.tables) c.asking-asking.ensures

pub reserve-requires-clause-flows : goal.reserve-requires-clause-flows
reserve-requires-clause-flows c =
    let a = c.as_mut.result.now in
    let kept = kept_too a c.self.inside.kept.value c.as_mut.ensures.value c.self.invariant in
    subst (λ n. AllByRecursion (λ turn. turn.flow < n) c.turns-turns.result.now) (sym kept.reserves.flows)
    (flows_inside (arc_value a.config) c.turns-turns.result.now (turns_of (arc_value a.config)) (rw c.deref.ensures at c.turns-turns.ensures.value))

pub reserve-requires-clause-room : goal.reserve-requires-clause-room
reserve-requires-clause-room c =
    let a = c.as_mut.result.now in
    let kept = kept_too a c.self.inside.kept.value c.as_mut.ensures.value c.self.invariant in
    as_long a.reserves.levels a.left.items c.as_mut_slice-left.result.now
    (ap length c.as_mut_slice-left.ensures.value) kept.left

pub leave-requires-clause-room : goal.leave-requires-clause-room
leave-requires-clause-room c =
    let a = c.as_mut.result.now in
    let kept = kept_too a c.self.inside.kept.value c.as_mut.ensures.value c.self.invariant in
    as_long a.reserves.levels a.left.items c.plan.new.reserves
    (c.plan.auto.reserves ∙ c.reserve.auto.reserves ∙ ap length c.as_mut_slice-left.ensures.value) kept.left

pub leave-requires-clause-places : goal.leave-requires-clause-places
leave-requires-clause-places c =
    let a = c.as_mut.result.now in
    let kept = kept_too a c.self.inside.kept.value c.as_mut.ensures.value c.self.invariant in
    askers_inside (arc_value a.config) c.turns-turns.result.now a.askers.outstanding (numbers_of (turns_of a.askers.tables))
    c.asking-asking.result.now (rw c.deref.ensures at c.turns-turns.ensures.value) (ap (λ t. numbers_of (turns_of t)) kept.tables) c.asking-asking.ensures

pub leave-requires-clause-flows : goal.leave-requires-clause-flows
leave-requires-clause-flows c =
    let a = c.as_mut.result.now in
    let kept = kept_too a c.self.inside.kept.value c.as_mut.ensures.value c.self.invariant in
    subst (λ n. AllByRecursion (λ turn. turn.flow < n) c.turns-turns.result.now) (sym kept.reserves.flows)
    (flows_inside (arc_value a.config) c.turns-turns.result.now (turns_of (arc_value a.config)) (rw c.deref.ensures at c.turns-turns.ensures.value))

pub invariant_of-self-2 : goal.invariant_of-self-2
invariant_of-self-2 c =
    let a = c.as_mut.result.now in
    let kept = kept_too a c.self.inside.kept.value c.as_mut.ensures.value c.self.invariant in
    let allows : (with_items a.allowances c.plan.new.allowances).items ≡ c.plan.new.allowances =
    with_items_is a.allowances c.plan.new.allowances
    (omega (arith, c.plan.ensures.flows, c.allow.ensures.long, c.as_mut_slice-allowances.ensures.len)) in
    let leaves : (with_items a.left c.plan.new.reserves).items ≡ c.plan.new.reserves =
    with_items_is a.left c.plan.new.reserves
    (omega (arith, c.plan.auto.reserves, c.reserve.auto.reserves, c.as_mut_slice-left.ensures.len)) in
    planned_kept (arc_value a.config) a.askers a.buckets c.allow.new.buckets a.reserves c.leave.new.buckets a.planner c.plan.new.self
    a.allowances.items (with_items a.allowances c.plan.new.allowances).items a.left.items
    (with_items a.left c.plan.new.reserves).items kept c.allow.ensures.same
    (ap length c.leave.ensures.levels
    ∙ left-length c.turns-turns.result.now c.plan.new.reserves c.asking-asking.result.now a.reserves.levels)
    c.leave.ensures.ticks c.leave.ensures.round c.plan.ensures.tables
    (omega (arith, ap length allows, c.plan.ensures.flows, c.allow.ensures.long, ap length c.as_mut_slice-allowances.ensures.value))
    (subst (λ ls. IsRoom ls (with_items a.left c.plan.new.reserves).items) (sym c.leave.ensures.levels)
    (left_room c.turns-turns.result.now c.plan.new.reserves c.asking-asking.result.now a.reserves.levels a.left.items
    (with_items a.left c.plan.new.reserves).items
    (left-length c.turns-turns.result.now c.plan.new.reserves c.asking-asking.result.now a.reserves.levels)
    (omega (arith, ap length leaves, c.plan.auto.reserves, c.reserve.auto.reserves, ap length c.as_mut_slice-left.ensures.value))
    kept.left))

pub returns : goal.returns
returns c =
    let a = c.as_mut.result.now in
    let kept = kept_too a c.self.inside.kept.value c.as_mut.ensures.value c.self.invariant in
    let told : core_in a ≡ c.args.self.now = ap core_in c.as_mut.ensures.value ∙ c.self.view_is in
    let t = a.planner.tables in
    let bs = c.args.channels.now in
    let turns = c.turns-turns.result.now in
    let these = c.asking-asking.result.now in
    let outstanding = c.outstanding.result.now in
    let free = c.deref-2.result.now in
    let noted = c.reserve.new.reserves in
    let allowed : List (Option ℕ) = map bytes_in a.buckets.levels in
    let reserves : List ℕ = map reserve_in a.reserves.levels in
    let long : length c.allow.new.allowances ≡ length a.buckets.levels =
    omega (arith, c.allow.ensures.long, ap length c.as_mut_slice-allowances.ensures.value, kept.allowances, kept.buckets.flows) in
    let agrees = subst (λ x. AgreeOn (turns_at (turns_of x) these) c.allow.new.allowances allowed noted reserves)
    (sym kept.planner)
    (agree (arc_value a.config) turns a.buckets.levels a.reserves.levels c.allow.new.allowances noted these (rw c.deref.ensures at c.turns-turns.ensures.value)
    long c.allow.ensures.allowed c.reserve.ensures) in
    let same = subst (λ x. map (turn_at x) turns ≡ map Some (turns_of x)) (sym kept.planner) (rw c.deref.ensures at c.turns-turns.ensures.value) in
    let asks : these ≡ asking_in t outstanding =
    c.asking-asking.ensures ∙ ap₂ (λ os x. asking_in x os) (sym c.outstanding.ensures.value) kept.tables
    ∙ ap (λ x. asking_in x outstanding) (sym kept.planner) in
    let leaves = left-is t turns outstanding allowed a.reserves.levels free noted c.plan.new.reserves these same asks
    (kept.reserves.flows ∙ sym kept.buckets.flows ∙ sym (length-map a.buckets.levels bytes_in)) c.reserve.ensures
    (c.plan.ensures.within allowed reserves) (c.in_ok-plan.ensures.reserves allowed reserves agrees) in
    let idle = c.deref-2.ensures.value ∙ c.in_ok-note_idle.ensures in
    planned_value (arc_value a.config) a.round a.askers a.buckets c.allow.new.buckets a.reserves c.leave.new.buckets a.planner
    c.plan.new.self bs c.allow.ensures.same
    (reserves_over (arc_value a.config) t a.round a.askers a.buckets a.reserves a.planner bs outstanding free c.leave.new.buckets.levels
    kept.planner c.outstanding.ensures.value idle (c.leave.ensures.levels ∙ leaves))
    (claims_over (arc_value a.config) t a.round a.askers a.buckets a.reserves a.planner bs outstanding free c.plan.new.self.claims
    kept.planner c.outstanding.ensures.value idle (c.in_ok-plan.ensures.claims allowed reserves agrees))
    ∙ ap (λ s. planned_core s bs) told
