use Rattle.std.proofs.Common.{◌+◌, ◌++◌, length, flat_map, drop, take, ap, sym, ◌∙◌, arith}
use Rattle.us_flows.specs.Clusters.{words_in}
use Rattle.us_flows.specs.Ranks.{flow_turns, table_turns}
use Rattle.us_flows.proofs.TurnLemmas.{table_turns-more}
use Rattle.us_flows.proofs.WordLemmas.{words_below, words-next}
use Rattle.us_flows.proofs.turns.ordering.turns_in_table_order.Goals as goal

pub push_turns-requires : goal.push_turns-requires
push_turns-requires c =
    let few = words_below c.args.flows.now c.loop-place.place c.index-flows-place.result _ c.loop-place-test.true
    c.index-flows-place.is in
    omega (arith, few, c.loop-place.invariant.number, c.requires.few)

pub overflow_add-number : goal.overflow_add-number
overflow_add-number c =
    let few = words_below c.args.flows.now c.loop-place.place c.index-flows-place.result _ c.loop-place-test.true
    c.index-flows-place.is in
    omega (arith, few, c.loop-place.invariant.number, c.words-number.ensures.value, c.requires.few)

pub loop-place-preserved : goal.loop-place-preserved
loop-place-preserved c =
    let number = ap (λ n. c.loop-place.number + n) c.words-number.ensures.value in
    let next = ap (λ turns. turns ++ table_turns (c.loop-place.place + 1) (c.loop-place.number + c.words-number.result)
    (drop (c.loop-place.place + 1) c.args.flows.now)) c.in_ok-push_turns.ensures in
    let counted = ap (λ n. (c.loop-place.turns.items ++ flow_turns c.loop-place.place c.loop-place.number
    c.index-flows-place.result) ++ table_turns (c.loop-place.place + 1) n
    (drop (c.loop-place.place + 1) c.args.flows.now)) number in
    let more = table_turns-more c.loop-place.turns.items c.loop-place.place c.loop-place.number c.args.flows.now
    c.index-flows-place.result _ c.loop-place-test.true c.index-flows-place.is in
    record {
      number =
          ap (λ n. n + c.words-number.result) c.loop-place.invariant.number ∙
          ap (λ n. length (flat_map words_in (take c.loop-place.place c.args.flows.now)) + n) c.words-number.ensures.value ∙
          sym (words-next c.args.flows.now c.loop-place.place c.index-flows-place.result _ c.loop-place-test.true
          c.index-flows-place.is);
      rest = next ∙ counted ∙ more ∙ c.loop-place.invariant.rest;
    }
