use Rattle.us_flows.specs.Ranges.{max_channel_id}
use Rattle.us_flows.proofs.FlowLemmas.{first_number}
use Rattle.us_flows.proofs.flow_tables.ids_of.Goals as goal

pub u8_of-requires : goal.u8_of-requires
u8_of-requires c =
    first_number 1 max_channel_id c.args.items.now c.loop-value.value-index c.value-item.result _ c.loop-value-test.true c.value-item.is
    c.loop-value.invariant.1
