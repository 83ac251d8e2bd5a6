use Rattle.std.proofs.Common.{◌≡◌, ◌+◌, ◌-◌, ◌==◌, Some, None, ap, get_or, ◌∙◌, arith}
use Rattle.std.specs.Prelude.{if◌then◌else◌}
use Rattle.us_credit_rules.proofs.SeatLemmas.{place_more}
use Rattle.us_credit_rules.proofs.seats.places_of.Goals as goal

pub loop-place-preserved : goal.loop-place-preserved
loop-place-preserved c = λ code.
    let i = c.loop-place.place - 1 in
    let before = get_or c.loop-place.places.items code None in
    let next : i + 1 ≡ c.loop-place.place = omega (arith, c.loop-place-test.true) in
    place_more c.args.seats.now i code c.index-seats-place.result before (get_or c.put.new.places.items code None)
    (omega (arith, c.loop-place-test.true, c.loop-place.auto.place)) c.index-seats-place.is
    (c.in_ok-put.ensures code ∙ ap (λ n. if n == code then Some i else before) c.code.ensures)
    (rw next (c.loop-place.invariant code))
