use Rattle.std.proofs.Common.{sum, ap, arith}
use Rattle.us_intake.specs.Seats.{Seat}
use Rattle.us_live.proofs.ScheduleLemmas.{room}
use Rattle.us_live.proofs.rounds.make_round.Goals as goal

pub round-requires-clause-room : goal.round-requires-clause-room
round-requires-clause-room g c κs within =
    let cut = c.in_ok-cut.ensures in
    rw c.deref.ensures.value (room c.args.state.outstanding c.args.seat.now.taken c.in_ok-cut.cut.items c.requires.took
    (omega (arith, ap (λ (s : Seat). sum s.taken) cut.cut.grown, cut.within)))
