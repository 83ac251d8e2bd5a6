use Rattle.std.proofs.Common.{◌+◌, ◌++◌, drop, length, ap, ◌∙◌, arith}
use Rattle.us_flows.specs.Clusters.{turns_from}
use Rattle.us_credit_rules.proofs.SeatLemmas.{few_of, flow_more}
use Rattle.us_credit_rules.proofs.seats.seats_of.Goals as goal

pub push_seats-requires-clause-few_words : goal.push_seats-requires-clause-few_words
push_seats-requires-clause-few_words c = omega (
  arith,
  c.loop-place.invariant.few,
  c.loop-place-test.true,
  ap length c.flows-flow-items.ensures.value,
  c.flows-flow-items.ensures.lawful.few_flows,
)

pub push_seats-requires-clause-few_clusters : goal.push_seats-requires-clause-few_clusters
push_seats-requires-clause-few_clusters c =
    (few_of c.args.config.now c.flows-flow-items.result.now c.loop-place.place c.flow-item.result
    c.flows-flow-items.ensures.value c.flows-flow-items.ensures.lawful c.loop-place-test.true c.flow-item.is).0

pub overflow_cast-word : goal.overflow_cast-word
overflow_cast-word c =
    let few = few_of c.args.config.now c.flows-flow-items.result.now c.loop-place.place c.flow-item.result
    c.flows-flow-items.ensures.value c.flows-flow-items.ensures.lawful c.loop-place-test.true c.flow-item.is in
    omega (arith, few.1, c.words.ensures.value)

pub overflow_add-word : goal.overflow_add-word
overflow_add-word c =
    let few = few_of c.args.config.now c.flows-flow-items.result.now c.loop-place.place c.flow-item.result
    c.flows-flow-items.ensures.value c.flows-flow-items.ensures.lawful c.loop-place-test.true c.flow-item.is in
    omega (
      arith,
      few.1,
      c.words.ensures.value,
      c.loop-place.invariant.few,
      c.loop-place-test.true,
      ap length c.flows-flow-items.ensures.value,
      c.flows-flow-items.ensures.lawful.few_flows,
    )

pub loop-place-preserved : goal.loop-place-preserved
loop-place-preserved c =
    let flows = c.flows-flow-items.result.now in
    let flow = c.flow-item.result in
    let place = c.loop-place.place in
    let word = c.loop-place.word in
    let few = few_of c.args.config.now c.flows-flow-items.result.now c.loop-place.place c.flow-item.result
    c.flows-flow-items.ensures.value c.flows-flow-items.ensures.lawful c.loop-place-test.true c.flow-item.is in
    record {
      left =
          ap (λ seats. seats ++ turns_from (place + 1) (word + c.words.result) (drop (place + 1) flows))
          c.in_ok-push_seats.ensures
          ∙ flow_more c.loop-place.seats.items place word c.words.result flows flow c.loop-place-test.true c.flow-item.is
          c.words.ensures.value
          ∙ c.loop-place.invariant.left;
      few = omega (
        arith,
        few.1,
        c.words.ensures.value,
        c.loop-place.invariant.few,
      );
    }
