use Rattle.std.proofs.Common.{◌≡◌, sym, subst, ◌∙◌}
use Rattle.std.specs.Prelude.{IfOk}
use Rattle.std.specs.List.{AllByRecursion}
use Rattle.us_crew.specs.Values.{values_of}
use Rattle.us_round.proofs.PhaseLemmas.{accepted}
use Rattle.us_replay.specs.Collecting.{IsChunk, seat_after_asks}
use Rattle.us_replay.proofs.CollectingLemmas.{gathered, of-intake}
use Rattle.us_replay.proofs.doers.kept.KeptDoers.gather.Goals as goal

pub map_kept-requires : goal.map_kept-requires
map_kept-requires g c =
    accepted _ (λ item. IsChunk c.args.intake.now item.0 item.1.now) c.in_ok-seat.chunks.items c.in_ok-seat.ensures.chunks

pub join_all-requires-clause-others : goal.join_all-requires-clause-others
join_all-requires-clause-others g c =
    let are = subst (λ r. IfOk r (λ seats. seats.items ≡
    values_of (λ _ item. seat_after_asks item.0 item.1.now) c.in_ok-seat.chunks.items)) c.in_ok-seats.ensures.value
    c.map_kept.ensures.values in
    subst (λ seats. AllByRecursion (λ seat. seat.intake ≡ c.args.intake.now) seats) (sym are)
    (of-intake (λ item. item.0) (λ item. item.1.now) c.args.intake.now c.in_ok-seat.chunks.items 0 c.in_ok-seat.ensures.chunks)

pub returns-clause-seat : goal.returns-clause-seat
returns-clause-seat g c =
    let are = subst (λ r. IfOk r (λ seats. seats.items ≡
    values_of (λ _ item. seat_after_asks item.0 item.1.now) c.in_ok-seat.chunks.items)) c.in_ok-seats.ensures.value
    c.map_kept.ensures.values in
    c.join_all.ensures ∙ gathered (λ item. item.0) (λ item. item.1.now) c.args.intake.now c.args.seat c.in_ok-seat.seat
    c.in_ok-seat.chunks.items c.args.asks.now c.in_ok-seats.seats.items c.requires.own c.requires.submitted_row
    c.requires.taken_row c.requires.room c.in_ok-seat.ensures.rest c.in_ok-seat.ensures.whole c.in_ok-seat.ensures.chunks are
