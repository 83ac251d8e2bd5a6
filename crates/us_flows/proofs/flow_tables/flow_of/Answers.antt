use Rattle.toml.specs.View.{table_view}
use Rattle.us_flows.specs.Keys.{all_flow_keys}
use Rattle.us_flows.proofs.FlowLemmas.{flow_ranges, flow_widths}
use Rattle.us_flows.proofs.flow_tables.flow_of.Goals as goal

pub ids_of-requires : goal.ids_of-requires
unfolding all_flow_keys
ids_of-requires c =
    rw c.items.ensures (flow_ranges (table_view c.args.values.now) c.requires.whole c.requires.ranged).channel_ids

pub clusters_of-requires : goal.clusters_of-requires
unfolding all_flow_keys
clusters_of-requires c =
    rw c.items-2.ensures (flow_ranges (table_view c.args.values.now) c.requires.whole c.requires.ranged).sids

pub u16-requires-clause-fits : goal.u16-requires-clause-fits
unfolding all_flow_keys
u16-requires-clause-fits c = (flow_widths (table_view c.args.values.now) c.requires.whole c.requires.ranged).id

pub u8-requires-clause-fits : goal.u8-requires-clause-fits
unfolding all_flow_keys
u8-requires-clause-fits c = (flow_widths (table_view c.args.values.now) c.requires.whole c.requires.ranged).priority

pub u32-requires-clause-fits : goal.u32-requires-clause-fits
unfolding all_flow_keys
u32-requires-clause-fits c = (flow_widths (table_view c.args.values.now) c.requires.whole c.requires.ranged).rate

pub u32-requires-2-clause-fits : goal.u32-requires-2-clause-fits
unfolding all_flow_keys
u32-requires-2-clause-fits c = (flow_widths (table_view c.args.values.now) c.requires.whole c.requires.ranged).burst

pub u32-requires-3-clause-fits : goal.u32-requires-3-clause-fits
unfolding all_flow_keys
u32-requires-3-clause-fits c = (flow_widths (table_view c.args.values.now) c.requires.whole c.requires.ranged).min_rate

pub u8-requires-2-clause-fits : goal.u8-requires-2-clause-fits
unfolding all_flow_keys
u8-requires-2-clause-fits c = (flow_widths (table_view c.args.values.now) c.requires.whole c.requires.ranged).unit

pub u32-requires-4-clause-fits : goal.u32-requires-4-clause-fits
unfolding all_flow_keys
u32-requires-4-clause-fits c = (flow_widths (table_view c.args.values.now) c.requires.whole c.requires.ranged).start_us

pub u32-requires-5-clause-fits : goal.u32-requires-5-clause-fits
unfolding all_flow_keys
u32-requires-5-clause-fits c = (flow_widths (table_view c.args.values.now) c.requires.whole c.requires.ranged).interval_us

pub u32-requires-6-clause-fits : goal.u32-requires-6-clause-fits
unfolding all_flow_keys
u32-requires-6-clause-fits c = (flow_widths (table_view c.args.values.now) c.requires.whole c.requires.ranged).jitter_us

pub u16-requires-2-clause-fits : goal.u16-requires-2-clause-fits
unfolding all_flow_keys
u16-requires-2-clause-fits c = (flow_widths (table_view c.args.values.now) c.requires.whole c.requires.ranged).grant_bytes

pub u8-requires-3-clause-fits : goal.u8-requires-3-clause-fits
unfolding all_flow_keys
u8-requires-3-clause-fits c = (flow_widths (table_view c.args.values.now) c.requires.whole c.requires.ranged).grants
