use Rattle.std.proofs.Common.{◌<◌, ap, ◌∙◌, length, map, arith}
use Rattle.std.proofs.lemmas.List.{take_all}
use Rattle.std.proofs.lemmas.List.Elements.{All-from_recursion}
use Rattle.us_flows.specs.Clusters.{turns_of, words_of}
use Rattle.us_flows.specs.declared.turns.Turn as places
use Rattle.us_flows.proofs.WordLemmas.{few_words-tables}
use Rattle.us_split.proofs.TurnAtLemmas.{numbers_are}
use Rattle.us_split.proofs.asking.cluster_turns.numbers_of.Goals as goal

abbrev blank : places.Turn
blank = record { flow = 0; list = 0; cluster = 0 }

pub overflow_cast-turn : goal.overflow_cast-turn
overflow_cast-turn c =
    let t = c.args.config.now in
    let lawful = c.turns-turns.ensures.lawful in
    let below = All-from_recursion (λ turn. turn.cluster < length (words_of t)) c.turns-turns.result.now
    c.turns-turns.ensures.numbers c.loop-turn.turn-index blank c.loop-turn-test.true in
    omega (arith, below, few_words-tables t lawful)

pub returns : goal.returns
returns c =
    c.loop-turn.invariant.items ∙
    ap (map (λ turn. turn.cluster)) (take_all c.loop-turn.turn-index c.turns-turns.result.now c.loop-turn-test.false) ∙
    numbers_are c.args.config.now c.turns-turns.result.now (turns_of c.args.config.now) c.turns-turns.ensures.value
