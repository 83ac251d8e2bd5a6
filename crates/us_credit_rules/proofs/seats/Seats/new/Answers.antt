use Rattle.us_credit_rules.proofs.SeatLemmas.{are_seats}
use Rattle.us_credit_rules.proofs.seats.Seats.new.Goals as goal

pub places_of-requires : goal.places_of-requires
places_of-requires c =
    rw (c.deref.ensures.value, c.in_ok-seats.ensures.value) (are_seats c.args.config.now c.seats_of.ensures.lawful)

pub invariant_of-result : goal.invariant_of-result
invariant_of-result c = record {
  seats = rw c.in_ok-seats.ensures.value (are_seats c.args.config.now c.seats_of.ensures.lawful);
  found = rw c.deref.ensures.value at c.in_ok-places.ensures;
}
