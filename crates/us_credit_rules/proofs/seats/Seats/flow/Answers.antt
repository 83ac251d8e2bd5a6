use Rattle.std.proofs.Common.{Some, ap, sym, ◌∙◌}
use Rattle.std.specs.Prelude.{find}
use Rattle.us_credit_rules.specs.Seats.{names}
use Rattle.us_credit_rules.proofs.SeatLemmas.{same_flow}
use Rattle.us_credit_rules.proofs.seats.Seats.flow.Goals as goal

pub returns-in-Some : goal.returns-in-Some
returns-in-Some c = λ t list lawful are found.
    ap Some c.place.ensures
    ∙ rw are (same_flow t c.args.id list c.in-Some.seat.now lawful
    (sym (rw c.in-Some.is at found ∙ ap (find (names c.args.id list)) are)))

pub returns-in-None : goal.returns-in-None
returns-in-None c = λ t list lawful are found. c.first.ensures
