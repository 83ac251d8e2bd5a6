use Rattle.std.proofs.Common.{arith}
use Rattle.us_flows.proofs.WordLemmas.{few_words}
use Rattle.us_flows.specs.Lawful.{IsFlow}
use Rattle.us_calendar.specs.Entries.{entry_of_flow}
use Rattle.us_calendar.proofs.ListingLemmas.{flow_step, listed_at}
use Rattle.us_calendar.proofs.listing.push_flows.Goals as goal

pub overflow_cast-word : goal.overflow_cast-word
overflow_cast-word c =
    let l = c.loop-flow in
    let flow = c.flow-item.result in
    let lawful = listed_at (IsFlow c.requires.flows.0) c.args.flows.now l.flow-index flow c.requires.flows.1
    c.loop-flow-test.true c.flow-item.is in
    let few = few_words flow lawful.some_clusters.1 in
    omega (arith, few, c.words.ensures.value)

pub overflow_add-word : goal.overflow_add-word
overflow_add-word c =
    let l = c.loop-flow in
    let flow = c.flow-item.result in
    let lawful = listed_at (IsFlow c.requires.flows.0) c.args.flows.now l.flow-index flow c.requires.flows.1
    c.loop-flow-test.true c.flow-item.is in
    let few = few_words flow lawful.some_clusters.1 in
    let inside = c.loop-flow-test.true in
    omega (arith, few, c.words.ensures.value, l.invariant.few, c.requires.few, inside)

pub loop-flow-preserved : goal.loop-flow-preserved
loop-flow-preserved c =
    let l = c.loop-flow in
    let flow = c.flow-item.result in
    let lawful = listed_at (IsFlow c.requires.flows.0) c.args.flows.now l.flow-index flow c.requires.flows.1
    c.loop-flow-test.true c.flow-item.is in
    let few = few_words flow lawful.some_clusters.1 in
    record {
      left = flow_step (entry_of_flow c.args.channel.now) c.args.flows.now l.flow-index flow l.word c.words.result
          c.flow_entry.result l.entries.items c.push_some.new.entries.items _ c.loop-flow-test.true c.flow-item.is
          c.words.ensures.value c.flow_entry.ensures c.in_ok-push_some.ensures l.invariant.left;
      few = omega (arith, few, c.words.ensures.value, l.invariant.few);
    }

pub flow_entry-requires-clause-flow : goal.flow_entry-requires-clause-flow
flow_entry-requires-clause-flow c =
    let l = c.loop-flow in
    let flow = c.flow-item.result in (
      c.requires.flows.0,
      listed_at (IsFlow c.requires.flows.0) c.args.flows.now l.flow-index flow c.requires.flows.1
          c.loop-flow-test.true c.flow-item.is,
    )
