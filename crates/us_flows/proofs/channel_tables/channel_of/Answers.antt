use Rattle.toml.specs.View.{table_view}
use Rattle.us_flows.proofs.ChannelLemmas.{channel_ranges, channel_widths}
use Rattle.us_flows.proofs.channel_tables.channel_of.Goals as goal

pub unreachable-requires : goal.unreachable-requires
unreachable-requires c =
    c.in-None.ensures (channel_ranges (table_view c.args.table.now) c.requires.whole c.requires.ranged).bursts

pub u8_at-id-requires : goal.u8_at-id-requires
u8_at-id-requires c = (channel_widths (table_view c.args.table.now) c.requires.whole c.requires.ranged).id

pub u8_at-ucd_count-requires : goal.u8_at-ucd_count-requires
u8_at-ucd_count-requires c = (channel_widths (table_view c.args.table.now) c.requires.whole c.requires.ranged).ucd_count

pub backoff_at-ranging_backoff-requires : goal.backoff_at-ranging_backoff-requires
backoff_at-ranging_backoff-requires c = (channel_widths (table_view c.args.table.now) c.requires.whole c.requires.ranged).ranging

pub backoff_at-data_backoff-requires : goal.backoff_at-data_backoff-requires
backoff_at-data_backoff-requires c = (channel_widths (table_view c.args.table.now) c.requires.whole c.requires.ranged).data_backoff

pub u8_at-request_minislots-requires : goal.u8_at-request_minislots-requires
u8_at-request_minislots-requires c = (channel_widths (table_view c.args.table.now) c.requires.whole c.requires.ranged).request_minislots

pub u16_at-contention_minislots-requires : goal.u16_at-contention_minislots-requires
u16_at-contention_minislots-requires c = (channel_widths (table_view c.args.table.now) c.requires.whole c.requires.ranged).contention_minislots

pub u16_at-maintenance_minislots-requires : goal.u16_at-maintenance_minislots-requires
u16_at-maintenance_minislots-requires c = (channel_widths (table_view c.args.table.now) c.requires.whole c.requires.ranged).maintenance_minislots

pub u32_at-maintenance_every-requires : goal.u32_at-maintenance_every-requires
u32_at-maintenance_every-requires c = (channel_widths (table_view c.args.table.now) c.requires.whole c.requires.ranged).maintenance_every

pub u8_at-station_minislots-requires : goal.u8_at-station_minislots-requires
u8_at-station_minislots-requires c = (channel_widths (table_view c.args.table.now) c.requires.whole c.requires.ranged).station_minislots
