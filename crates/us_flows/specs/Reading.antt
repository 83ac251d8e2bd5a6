-- The tables that a document writes: what is read where nothing is amiss.
use Rattle.std.specs.Prelude.{ℕ, codes, ◌==◌, if◌then◌else◌, List, [], ◌∷◌}
use Rattle.toml.specs.Data.{Items, no_items, item, Members}
use Rattle.us_slots.specs.Times.{Timing}
use Rattle.us_slots.specs.Bursts.{BurstProfile, ChannelBursts}
use Rattle.us_flows.specs.declared.channels.Channel.{Channel}
use Rattle.us_flows.specs.declared.stations.Station.{Station}
use Rattle.us_flows.specs.declared.flows.SchedulingType.{SchedulingType}
use Rattle.us_flows.specs.declared.flows.SchedulingType.TheVariants.{BestEffort, NonRealTimePolling, RealTimePolling, ActivityDetection, UnsolicitedGrant}
use Rattle.us_flows.specs.Tables.{Tables, FlowTable}
use Rattle.us_flows.specs.Documents.{number_at, flag_at, pair_at, items_at, table_at, table_of, numbers_of, lists_of}

abbrev pub profile_of : Members → BurstProfile
profile_of t = record {
  bits = number_at (codes "bits") t;
  preamble = number_at (codes "preamble") t;
  guard = number_at (codes "guard") t;
  fec_t = number_at (codes "fec_t") t;
  fec_k = number_at (codes "fec_k") t;
  shortened = flag_at (codes "shortened") t;
}

abbrev pub time_of : Members → Timing
time_of t =
    record { minislot_log2 = number_at (codes "minislot_log2") t; rate_log2 = number_at (codes "rate_log2") t }

-- the time and the profiles of a channel
abbrev pub bursts_of : Members → ChannelBursts
bursts_of t = record {
  time = time_of t;
  long = profile_of (table_at (codes "long") t);
  short = profile_of (table_at (codes "short") t);
  short_max = number_at (codes "max_minislots") (table_at (codes "short") t);
  unsolicited = profile_of (table_at (codes "unsolicited") t);
}

abbrev pub channel_of : Members → Channel
channel_of t = record {
  id = number_at (codes "id") t;
  bursts = bursts_of t;
  ucd_count = number_at (codes "ucd_count") t;
  ranging_backoff = pair_at (codes "ranging_backoff") t;
  data_backoff = pair_at (codes "data_backoff") t;
  request_minislots = number_at (codes "request_minislots") t;
  contention_minislots = number_at (codes "contention_minislots") t;
  maintenance_minislots = number_at (codes "maintenance_minislots") t;
  maintenance_every = number_at (codes "maintenance_every") t;
  station_minislots = number_at (codes "station_minislots") t;
}

-- the scheduling type with this number of the standard's
abbrev pub kind_of : ℕ → SchedulingType
kind_of number =
    if number == 3 then NonRealTimePolling
    else if number == 4 then RealTimePolling
    else if number == 5 then ActivityDetection
    else if number == 6 then UnsolicitedGrant
    else BestEffort

abbrev pub kind_at : Members → SchedulingType
kind_at t = kind_of (number_at (codes "type") t)

abbrev pub flow_of : Members → FlowTable
flow_of t = record {
  id = number_at (codes "id") t;
  kind = kind_at t;
  channels = numbers_of (items_at (codes "channels") t);
  clusters = lists_of (items_at (codes "clusters") t);
  priority = number_at (codes "priority") t;
  rate = number_at (codes "rate") t;
  burst = number_at (codes "burst") t;
  min_rate = number_at (codes "min_rate") t;
  unit = number_at (codes "unit") t;
  headers = flag_at (codes "headers") t;
  start_us = number_at (codes "start_us") t;
  interval_us = number_at (codes "interval_us") t;
  jitter_us = number_at (codes "jitter_us") t;
  grant_bytes = number_at (codes "grant_bytes") t;
  grants_per_interval = number_at (codes "grants_per_interval") t;
}

abbrev pub station_of : Members → Station
station_of t = record {
  id = number_at (codes "id") t;
  channel = number_at (codes "channel") t;
  sid = number_at (codes "sid") t;
  start_us = number_at (codes "start_us") t;
  interval_us = number_at (codes "interval_us") t;
  jitter_us = number_at (codes "jitter_us") t;
}

-- each table of a list, read
abbrev pub all_of : {A : Type 0} → (Members → A) → Items → List A
all_of of no_items = []
all_of of (item d ds) = of (table_of d) ∷ all_of of ds

abbrev pub round_ticks_of : Members → ℕ
round_ticks_of doc = number_at (codes "round_ticks") doc

abbrev pub channels_of : Members → List Channel
channels_of doc = all_of channel_of (items_at (codes "channel") doc)

abbrev pub flows_of : Members → List FlowTable
flows_of doc = all_of flow_of (items_at (codes "flow") doc)

abbrev pub stations_of : Members → List Station
stations_of doc = all_of station_of (items_at (codes "station") doc)

abbrev pub tables_of : Members → Tables
tables_of doc = record {
  round_ticks = round_ticks_of doc;
  lead_ticks = number_at (codes "lead_ticks") doc;
  channels = channels_of doc;
  flows = flows_of doc;
  stations = stations_of doc;
}
