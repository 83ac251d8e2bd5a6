use Rattle.us_flows.proofs.FlowLemmas.{first_sid}
use Rattle.us_flows.proofs.flow_tables.cluster_of.Goals as goal

pub u16_of-requires : goal.u16_of-requires
u16_of-requires c =
    first_sid c.args.items.now c.loop-value.value-index c.value-item.result _ c.loop-value-test.true c.value-item.is
    c.loop-value.invariant.1
