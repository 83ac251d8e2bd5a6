-- A station's table without a fault in its shape: all its values are in their ranges.
use Rattle.std.proofs.Common.{◌≡◌, ◌≤◌, false, codes, refl, arith}
use Rattle.std.specs.Int.{IsInRange}
use Rattle.toml.specs.Data.{Members}
use Rattle.us_flows.specs.Ranges.{min_interval_us, max_channel_id, max_id, max_unicast_sid, max_us}
use Rattle.us_flows.specs.Keys.{station_keys}
use Rattle.us_flows.specs.Documents.{number_at}
use Rattle.us_flows.specs.Shapes.{lacks, strays}
use Rattle.us_flows.proofs.ShapeLemmas.{number_in_range}

pub record StationRanges (t : Members) : Type 0 where
  pub id : IsInRange 1 max_id (number_at (codes "id") t)
  pub channel : IsInRange 1 max_channel_id (number_at (codes "channel") t)
  pub sid : IsInRange 1 max_unicast_sid (number_at (codes "sid") t)
  pub start_us : number_at (codes "start_us") t ≤ max_us
  pub interval_us : IsInRange min_interval_us max_us (number_at (codes "interval_us") t)
  pub jitter_us : number_at (codes "jitter_us") t ≤ max_us

pub station_ranges : (t : Members) → lacks station_keys t ≡ false → strays station_keys t ≡ false → StationRanges t
unfolding station_keys
station_ranges t w r = record {
  id = number_in_range station_keys t (codes "id") 1 max_id w r refl (λ d. refl);
  channel = number_in_range station_keys t (codes "channel") 1 max_channel_id w r refl (λ d. refl);
  sid = number_in_range station_keys t (codes "sid") 1 max_unicast_sid w r refl (λ d. refl);
  start_us = (number_in_range station_keys t (codes "start_us") 0 max_us w r refl (λ d. refl)).1;
  interval_us = number_in_range station_keys t (codes "interval_us") min_interval_us max_us w r refl (λ d. refl);
  jitter_us = (number_in_range station_keys t (codes "jitter_us") 0 max_us w r refl (λ d. refl)).1;
}

-- so that they fit the types of their fields
pub record StationWidths (t : Members) : Type 0 where
  pub id : number_at (codes "id") t ≤ 65535
  pub channel : number_at (codes "channel") t ≤ 255
  pub sid : number_at (codes "sid") t ≤ 65535
  pub start_us : number_at (codes "start_us") t ≤ 4294967295
  pub interval_us : number_at (codes "interval_us") t ≤ 4294967295
  pub jitter_us : number_at (codes "jitter_us") t ≤ 4294967295

widths : (t : Members) → StationRanges t → StationWidths t
widths t ranges = record {
  id = ranges.id.1;
  channel = ranges.channel.1;
  sid = omega (arith, ranges.sid.1);
  start_us = omega (arith, ranges.start_us);
  interval_us = omega (arith, ranges.interval_us.1);
  jitter_us = omega (arith, ranges.jitter_us);
}

pub station_widths : (t : Members) → lacks station_keys t ≡ false → strays station_keys t ≡ false → StationWidths t
station_widths t w r = widths t (station_ranges t w r)
