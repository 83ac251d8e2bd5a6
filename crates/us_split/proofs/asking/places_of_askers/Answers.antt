use Rattle.std.proofs.Common.{length, ap, arith}
use Rattle.us_split.proofs.TurnNumberLemmas.{turn_numbers}
use Rattle.us_split.proofs.asking.places_of_askers.Goals as goal

pub places_asking-requires-clause-few : goal.places_asking-requires-clause-few
places_asking-requires-clause-few c =
    let turns = turn_numbers c.args.config.now c.requires.lawful in
    omega (arith, ap length c.deref.ensures.value, ap length c.in_ok-numbers.ensures, turns.few)

pub places_asking-requires-clause-words : goal.places_asking-requires-clause-words
places_asking-requires-clause-words c =
    let turns = turn_numbers c.args.config.now c.requires.lawful in
    rw (c.deref.ensures.value, c.in_ok-numbers.ensures, c.requires.words) turns.below
