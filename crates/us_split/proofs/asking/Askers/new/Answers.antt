use Rattle.std.proofs.Common.{None, length, ap, ◌∙◌, subst, arith}
use Rattle.std.specs.Prelude.{slice_index_or}
use Rattle.us_split.specs.Askers.{IsPlaceOf}
use Rattle.us_split.proofs.AskerStepLemmas.{askers-new}
use Rattle.us_split.proofs.TurnNumberLemmas.{turn_numbers}
use Rattle.us_split.proofs.asking.Askers.new.Goals as goal

pub places_of-requires-clause-few : goal.places_of-requires-clause-few
places_of-requires-clause-few c =
    let turns = turn_numbers c.args.config.now c.clusters-words.ensures.lawful in
    omega (arith, ap length c.deref.ensures.value, ap length c.in_ok-numbers.ensures, turns.few)

pub places_of-requires-clause-below : goal.places_of-requires-clause-below
places_of-requires-clause-below c =
    let turns = turn_numbers c.args.config.now c.clusters-words.ensures.lawful in
    rw (c.deref.ensures.value, c.in_ok-numbers.ensures, c.clusters-words.ensures.value) turns.below

pub invariant_of-result : goal.invariant_of-result
invariant_of-result c =
    let t = c.args.config.now in
    let numbers = c.in_ok-numbers.numbers in
    let words = c.clusters-words.ensures.value in
    rw (c.of.ensures, c.in_ok-outstanding.ensures, c.in_ok-left.ensures, c.in_ok-asking.ensures.items, words) (
    askers-new t numbers.items c.in_ok-places.places.items _ _ c.clusters-words.ensures.lawful
    c.in_ok-numbers.ensures (c.in_ok-places.ensures.one_each ∙ words)
    (λ n below. subst (λ ns. IsPlaceOf ns n (slice_index_or c.in_ok-places.places.items n None)) c.deref.ensures.value
    (c.in_ok-places.ensures.found n (omega (arith, below, words))))
    (omega (arith, numbers.ok.0, c.len.ensures, c.in_ok-asking.ensures.capacity))
    (omega (arith, numbers.ok.0, c.len-2.ensures, c.in_ok-pending.ensures.capacity))
    )
