use Rattle.std.proofs.Common.{◌≡◌, length, map, ap, ap₂, ◌∙◌, arith}
use Rattle.std.specs.Prelude.{slice_index}
use Rattle.std.proofs.lemmas.List.{length-map}
use Rattle.us_split.specs.declared.turn_rows.Seat.{Seat}
use Rattle.us_split.specs.TurnRows.{weight_at}
use Rattle.us_split.proofs.DivisionLemmas.{divided-within, divided-length}
use Rattle.us_split.proofs.PartialPlanLemmas.{bursts_all}
use Rattle.us_split.proofs.SecondPassLemmas.{minus-at, minus-length}
use Rattle.us_split.proofs.row_plans.more_of.Goals as goal

weighed : (c : goal.After-divide) →
    c.weigh.new.self ≡ map (λ seat. weight_at c.args.row.now.asker.header c.args.channels.now seat.place) c.args.row.now.seats
weighed c =
    c.weigh.ensures.value ∙
    ap₂ (λ h seats. map (λ (seat : Seat). weight_at h c.args.channels.now seat.place) seats) c.header.ensures c.seats.ensures.value

pub divide-requires : goal.divide-requires
divide-requires c = record {
  bursts = bursts_all c.beside-left.result c.header.result (λ k.
      omega (arith, ap (λ xs. slice_index xs k) c.beside-left.ensures, minus-at c.weigh.new.self c.args.first.now k, c.weigh.ensures.bursts k));
}

pub returns-clause-bursts : goal.returns-clause-bursts
returns-clause-bursts c = λ k.
    omega (
      arith,
      ap (λ xs. slice_index xs k) c.divide.ensures.value,
      divided-within c.args.bytes c.beside-left.result k,
      ap (λ xs. slice_index xs k) c.beside-left.ensures,
      minus-at c.weigh.new.self c.args.first.now k,
      c.weigh.ensures.bursts k,
      c.header.ensures,
      c.requires.first.bursts k,
    )

pub returns-clause-one_each : goal.returns-clause-one_each
returns-clause-one_each c =
    ap length c.divide.ensures.value ∙ divided-length c.args.bytes c.beside-left.result ∙
    ap length c.beside-left.ensures ∙ minus-length c.weigh.new.self c.args.first.now ∙
    ap length (weighed c) ∙
    length-map c.args.row.now.seats (λ (seat : Seat). weight_at c.args.row.now.asker.header c.args.channels.now seat.place)
