use Rattle.std.proofs.Common.{◌≡◌, length, map, ap, ap₂, ◌∙◌, arith}
use Rattle.std.specs.Prelude.{slice_index}
use Rattle.std.proofs.lemmas.List.{length-map}
use Rattle.us_split.specs.declared.turn_rows.Seat.{Seat}
use Rattle.us_split.specs.Divisions.{divided}
use Rattle.us_split.specs.TurnRows.{weight_at}
use Rattle.us_split.proofs.DivisionLemmas.{divided-within, divided-length}
use Rattle.us_split.proofs.PartialPlanLemmas.{bursts_all}
use Rattle.us_split.proofs.row_plans.share_out.Goals as goal

weighed : (c : goal.After-divide) →
    c.weigh.new.self ≡ map (λ seat. weight_at c.args.row.now.asker.header c.args.channels.now seat.place) c.args.row.now.seats
weighed c =
    c.weigh.ensures.value ∙
    ap₂ (λ h seats. map (λ (seat : Seat). weight_at h c.args.channels.now seat.place) seats) c.header.ensures c.seats.ensures.value

pub divide-requires : goal.divide-requires
divide-requires c = record {
  bursts = bursts_all c.weigh.new.self c.header.result c.weigh.ensures.bursts;
}

pub returns-clause-value : goal.returns-clause-value
returns-clause-value c = c.divide.ensures.value ∙ ap (divided c.args.bytes) (weighed c)

pub returns-clause-bursts : goal.returns-clause-bursts
returns-clause-bursts c = λ k.
    omega (arith, ap (λ xs. slice_index xs k) c.divide.ensures.value, divided-within c.args.bytes c.weigh.new.self k, c.weigh.ensures.bursts k, c.header.ensures)

pub returns-clause-one_each : goal.returns-clause-one_each
returns-clause-one_each c =
    ap length c.divide.ensures.value ∙ divided-length c.args.bytes c.weigh.new.self ∙
    ap length (weighed c) ∙
    length-map c.args.row.now.seats (λ (seat : Seat). weight_at c.args.row.now.asker.header c.args.channels.now seat.place)
