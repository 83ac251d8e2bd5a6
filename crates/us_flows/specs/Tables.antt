-- The tables of a configuration, as values (ours, but for what a field means).
use Rattle.std.specs.Prelude.{ℕ, ◌*◌, ◌/◌, Bool, ◌==◌, nat_le, ◌&&◌, if◌then◌else◌, List, zip, flat_map, find, Option, option_and_then, slice_get}
use Rattle.std.specs.List.{list_any}
use Rattle.us_slots.specs.Times.{minislot_ticks}
use Rattle.us_flows.specs.declared.channels.Channel.{Channel}
use Rattle.us_flows.specs.declared.flows.SchedulingType.{SchedulingType}
use Rattle.us_flows.specs.declared.stations.Station.{Station}

-- a service flow; what its scheduling type has no key for is 0, or false
pub record FlowTable : Type 0 where
  pub id : ℕ
  pub kind : SchedulingType
  -- the ids of its channels
  pub channels : List ℕ
  -- its SID clusters, each with a SID for each of these channels in order
  pub clusters : List (List ℕ)
  -- of flows that make requests:
  -- a higher number goes first
  pub priority : ℕ
  -- the maximum sustained rate in bit/s, 0 for no limit, and the maximum burst in bytes
  pub rate : ℕ
  pub burst : ℕ
  -- the minimum reserved rate in bit/s, 0 for none
  pub min_rate : ℕ
  -- the bytes of a unit of a request
  pub unit : ℕ
  -- whether each requested grant carries a segment header
  pub headers : Bool
  -- of flows that are polled or have unsolicited grants, in microseconds:
  -- when the first interval begins, how long each is, and how late a poll or a grant may start in it
  pub start_us : ℕ
  pub interval_us : ℕ
  pub jitter_us : ℕ
  -- of flows with unsolicited grants:
  -- the bytes of each grant, and how many there are in an interval
  pub grant_bytes : ℕ
  pub grants_per_interval : ℕ

-- the whole configuration
pub record Tables : Type 0 where
  -- the length of a round in ticks
  pub round_ticks : ℕ
  -- the least time in ticks from a request to the start of a MAP that serves it
  pub lead_ticks : ℕ
  pub channels : List Channel
  pub flows : List FlowTable
  pub stations : List Station

-- the bytes of a segment header (the standard's)
abbrev pub segment_header_bytes : ℕ
segment_header_bytes = 8

-- those of a flow: none where its grants carry no header
abbrev pub header_bytes : FlowTable → ℕ
header_bytes flow = if flow.headers then segment_header_bytes else 0

-- the minislots of a channel's MAPs
abbrev pub map_len : Tables → Channel → ℕ
map_len t c = t.round_ticks / minislot_ticks c.bursts.time

-- the most ticks of a run
abbrev pub max_run_ticks : ℕ
max_run_ticks = 67108864

-- a channel of the table has this id
abbrev pub has_channel : List Channel → ℕ → Bool
has_channel channels id = list_any (λ channel. channel.id == id) channels

-- the channel with this id, and that of the first id of a flow
abbrev pub channel_with : List Channel → ℕ → Option Channel
channel_with channels id = find (λ channel. channel.id == id) channels

abbrev pub first_channel : List Channel → FlowTable → Option Channel
first_channel channels flow = option_and_then (channel_with channels) (slice_get flow.channels 0)

-- the SIDs of a flow, each behind its channel
abbrev pub sids_of : FlowTable → List (ℕ × ℕ)
sids_of flow = flat_map (λ sids. zip flow.channels sids) flow.clusters

-- so many rounds, at least one, fit into a run
abbrev pub rounds_fit : Tables → ℕ → Bool
rounds_fit t rounds = nat_le 1 rounds && nat_le (rounds * t.round_ticks) max_run_ticks
