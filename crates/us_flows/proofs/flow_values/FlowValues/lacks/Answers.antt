use Rattle.us_flows.proofs.FoundLemmas.{named-at}
use Rattle.us_flows.proofs.flow_values.FlowValues.lacks.Goals as goal

pub lacks_at-requires-clause-named : goal.lacks_at-requires-clause-named
lacks_at-requires-clause-named c =
    named-at c.all_flow_keys-name-items.result.now _ c.loop-place.place c.all_flow_keys-name-items.ensures.keys
    c.loop-place-test.true
