use Rattle.std.proofs.Common.{ℕ, ◌-◌, ◌<◌, length, set, option_map, None, ap, ap₂, ◌∙◌, sym, subst, arith}
use Rattle.std.specs.Prelude.{slice_index, slice_index_or}
use Rattle.std.specs.List.{AllByRecursion}
use Rattle.us_split.specs.Plans.{at_most}
use Rattle.us_split.specs.PartialPlans.{Asker}
use Rattle.us_split.specs.TurnRows.{put_from, returned_at}
use Rattle.us_split.proofs.FullLaws.{no_second}
use Rattle.us_split.proofs.RowPassLemmas.{second_planned}
use Rattle.us_split.proofs.SecondPassLemmas.{added-at, added-length}
use Rattle.us_split.proofs.row_plans.plan_second.Goals as goal

abbrev header_in : Asker → ℕ
header_in asker = asker.header

pub returns-then-none_left-clause-plan : goal.returns-then-none_left-clause-plan
returns-then-none_left-clause-plan c =
    no_second c.args.row.now c.args.outstanding c.args.first.now c.args.channels.now c.args.allowances.now
    c.if-none_left.ensures.1 c.if-none_left.ensures.0

pub more_of-more-requires-clause-inside : goal.more_of-more-requires-clause-inside
more_of-more-requires-clause-inside c =
    subst (λ n. AllByRecursion (λ seat. seat.place < n) c.args.row.now.seats) (sym c.give_back_all-2.auto.channels)
    c.requires.row.inside

pub put_all-requires-clause-inside : goal.put_all-requires-clause-inside
put_all-requires-clause-inside c =
    subst (λ seats. AllByRecursion (λ seat. seat.place < length c.give_back_all-2.new.channels) seats)
    (sym c.seats-2.ensures.value)
    (subst (λ n. AllByRecursion (λ seat. seat.place < n) c.args.row.now.seats) (sym c.give_back_all-2.auto.channels)
    c.requires.row.inside)

pub put_all-requires-clause-one_each : goal.put_all-requires-clause-one_each
put_all-requires-clause-one_each c =
    ap length (c.bytes-2.ensures.value ∙ c.with-both.ensures) ∙
    added-length c.args.first.now c.more_of-more.result (c.requires.first.one_each ∙ sym c.more_of-more.ensures.one_each) ∙
    c.more_of-more.ensures.one_each ∙ sym (ap length c.seats-2.ensures.value)

pub put_all-requires-clause-bursts : goal.put_all-requires-clause-bursts
put_all-requires-clause-bursts c = λ k.
    omega (
      arith,
      ap (λ xs. slice_index xs k) (c.bytes-2.ensures.value ∙ c.with-both.ensures),
      added-at c.args.first.now c.more_of-more.result k,
      c.more_of-more.ensures.bursts k,
      ap header_in c.asker-2.ensures,
    )

pub returns-clause-plan : goal.returns-clause-plan
returns-clause-plan c =
    second_planned c.args.row.now c.args.outstanding c.demand_of-demand.result c.total-2.result c.args.first.now
    c.more_of-more.result c.with-both.result c.args.channels.now c.give_back_all-2.new.channels c.put_all.new.channels
    c.args.allowances.now c.spend.new.allowances
    (c.give_back_all-2.ensures.shares ∙
    ap (λ h. returned_at h c.bytes.result.now c.seats.result.now c.args.channels.now)
    (ap header_in c.give_back_all.view_is ∙ ap header_in c.asker.ensures) ∙
    ap₂ (λ shares seats. returned_at c.args.row.now.asker.header shares seats c.args.channels.now) c.bytes.ensures.value c.seats.ensures.value)
    (c.demand_of-demand.ensures ∙
    ap₂ (λ place bytes. at_most (slice_index_or c.args.allowances.now place None) bytes) c.flow.ensures
    (c.saturating_sub-left.ensures ∙ ap (λ n. c.args.outstanding - n) c.total.ensures))
    c.more_of-more.ensures.value c.with-both.ensures
    (c.in_ok-put_all.ensures.shares ∙
    ap₂ (λ asker seats. put_from asker 0 seats c.bytes-2.result.now c.give_back_all-2.new.channels) c.asker-2.ensures c.seats-2.ensures.value ∙
    ap (λ shares. put_from c.args.row.now.asker 0 c.args.row.now.seats shares c.give_back_all-2.new.channels) c.bytes-2.ensures.value)
    c.total-2.ensures
    (c.spend.ensures ∙
    ap (λ place. set c.args.allowances.now place
    (option_map (λ most. most - c.total-2.result) (slice_index_or c.args.allowances.now place None))) c.flow-2.ensures)
