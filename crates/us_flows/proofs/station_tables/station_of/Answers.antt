use Rattle.toml.specs.View.{table_view}
use Rattle.us_flows.proofs.StationLemmas.{station_widths}
use Rattle.us_flows.proofs.station_tables.station_of.Goals as goal

pub u16_at-requires : goal.u16_at-requires
u16_at-requires c = (station_widths (table_view c.args.table.now) c.requires.whole c.requires.ranged).id

pub u8_at-requires : goal.u8_at-requires
u8_at-requires c = (station_widths (table_view c.args.table.now) c.requires.whole c.requires.ranged).channel

pub u16_at-requires-2 : goal.u16_at-requires-2
u16_at-requires-2 c = (station_widths (table_view c.args.table.now) c.requires.whole c.requires.ranged).sid

pub u32_at-requires : goal.u32_at-requires
u32_at-requires c = (station_widths (table_view c.args.table.now) c.requires.whole c.requires.ranged).start_us

pub u32_at-requires-2 : goal.u32_at-requires-2
u32_at-requires-2 c = (station_widths (table_view c.args.table.now) c.requires.whole c.requires.ranged).interval_us

pub u32_at-requires-3 : goal.u32_at-requires-3
u32_at-requires-3 c = (station_widths (table_view c.args.table.now) c.requires.whole c.requires.ranged).jitter_us
