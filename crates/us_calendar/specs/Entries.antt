-- What a channel's calendar has (ours, where nothing else is said): unsolicited grants, polls and station maintenance.
use Rattle.std.specs.Prelude.{ℕ, ◌+◌, ◌*◌, ◌<◌, ◌≤◌, ◌==◌, nat_lt, ◌&&◌, ◌||◌, Bool, false, if◌then◌else◌, List, [], ◌∷◌, ◌++◌, length, flat_map, filter, filter_map, count_by, slice_get, slice_index, Option, Some, None, unwrap_or}
use Rattle.std.specs.List.{range_with_len}
use Rattle.us_slots.specs.Bursts.{burst_cost}
use Rattle.us_slots.specs.UsageCodes as codes
use Rattle.us_flows.specs.Ranges.{max_grants, max_us}
use Rattle.us_flows.specs.declared.channels.Channel.{Channel}
use Rattle.us_flows.specs.declared.stations.Station.{Station}
use Rattle.us_flows.specs.declared.flows.SchedulingType.{SchedulingType}
use Rattle.us_flows.specs.declared.flows.SchedulingType.TheVariants.{BestEffort, NonRealTimePolling, RealTimePolling, ActivityDetection, UnsolicitedGrant}
use Rattle.us_flows.specs.Tables.{Tables, FlowTable}
use Rattle.us_flows.specs.Clusters.{words_in}
use Rattle.us_holes.specs.Boards.{Owner, IsOwner}
use Rattle.us_calendar.specs.declared.kinds.Kind.{Kind}
use Rattle.us_calendar.specs.declared.kinds.Kind.TheVariants as kinds
use Rattle.us_calendar.specs.declared.silences.Silence.{Silence}

-- an entry: so many grants of `slots` minislots to one owner in each interval, each to start at the ideal time or at
-- most the jitter behind it; times are in quarter microseconds
pub record Entry : Type 0 where
  pub kind : Kind
  -- of its flow, or of its station
  pub id : ℕ
  pub owner : Owner
  pub slots : ℕ
  pub start : ℕ
  pub interval : ℕ
  pub jitter : ℕ
  pub grants : ℕ
  -- what it has while its flow is silent, where the flow's activity is detected
  pub silence : Option Silence

-- The minislots of a grant, where its flow is active, or of a poll, where it is silent,
abbrev pub slots_of : Entry → Bool → ℕ
slots_of e active = if active then e.slots else polled e.silence
  where
    polled : Option Silence → ℕ
    polled None = e.slots
    polled (Some s) = s.slots

-- and whom they are for: a poll is a request region of the same SID.
abbrev pub owner_of : Entry → Bool → Owner
owner_of e active = if active then e.owner else record e.owner { iuc = codes.request }

abbrev pub quarters : ℕ → ℕ
quarters us = 4 * us

-- a grant and a poll of it have a minislot at least, there is a grant at least, and its windows are apart
pub record IsEntry (e : Entry) : Type 0 where
  pub owner : IsOwner e.owner
  pub slots : 1 ≤ e.slots
  pub poll : 1 ≤ slots_of e false
  pub start : e.start ≤ quarters max_us
  pub interval : e.interval ≤ quarters max_us
  pub jitter : e.jitter < e.interval
  pub grants : 1 ≤ e.grants
  pub few_grants : e.grants ≤ max_grants

-- the SID of a flow on its first channel, in its first cluster
abbrev pub first_sid : FlowTable → ℕ
first_sid f = slice_index (unwrap_or (slice_get f.clusters 0) []) 0

-- a flow, and the number of its first word
pub record WordedFlow : Type 0 where
  pub word : ℕ
  pub flow : FlowTable

-- flows in table order, of which the first one's words begin with this number
abbrev pub with_words : ℕ → List FlowTable → List WordedFlow
with_words word [] = []
with_words word (flow ∷ flows) =
    record { word = word; flow = flow } ∷ with_words (word + length (words_in flow)) flows

-- the entry of a flow with so many grants, of so many minislots, in each interval
abbrev pub flow_entry : FlowTable → Kind → ℕ → ℕ → ℕ → Option Silence → Entry
flow_entry f kind iuc slots grants silence = record {
  kind = kind;
  id = f.id;
  owner = record { sid = first_sid f; iuc = iuc };
  slots = slots;
  start = quarters f.start_us;
  interval = quarters f.interval_us;
  jitter = quarters f.jitter_us;
  grants = grants;
  silence = silence;
}

-- an unsolicited grant has the cost of its bytes in the unsolicited profile,
abbrev pub grant_cost : Channel → FlowTable → ℕ
grant_cost c f = burst_cost c.bursts.time c.bursts.unsolicited f.grant_bytes

-- and a poll is a request region of one SID; a flow whose activity is detected has the one while it is active, and the other
-- while it is silent
abbrev pub scheduled : Channel → ℕ → FlowTable → SchedulingType → Option Entry
scheduled c word f BestEffort = None
scheduled c word f NonRealTimePolling =
    Some (flow_entry f kinds.NonRealTimePoll codes.request c.request_minislots 1 None)
scheduled c word f RealTimePolling = Some (flow_entry f kinds.RealTimePoll codes.request c.request_minislots 1 None)
scheduled c word f ActivityDetection =
    Some (flow_entry f kinds.Activity codes.unsolicited_grant (grant_cost c f) f.grants_per_interval
    (Some (record { word = word; slots = c.request_minislots })))
scheduled c word f UnsolicitedGrant =
    Some (flow_entry f kinds.Unsolicited codes.unsolicited_grant (grant_cost c f) f.grants_per_interval None)

-- the entry of a flow on a channel: it stands on the flow's first channel alone
abbrev pub entry_of_flow : Channel → WordedFlow → Option Entry
entry_of_flow c f = if slice_index f.flow.channels 0 == c.id then scheduled c f.word f.flow f.flow.kind else None

-- and that of a station: its maintenance
abbrev pub entry_of_station : Channel → Station → Option Entry
entry_of_station c s = if s.channel == c.id then Some (record {
  kind = kinds.Station;
  id = s.id;
  owner = record { sid = s.sid; iuc = codes.station_maintenance };
  slots = c.station_minislots;
  start = quarters s.start_us;
  interval = quarters s.interval_us;
  jitter = quarters s.jitter_us;
  grants = 1;
  silence = None;
}) else None

-- which kind goes first
abbrev pub rank_of : Kind → ℕ
rank_of kinds.Unsolicited = 0
rank_of kinds.Activity = 1
rank_of kinds.RealTimePoll = 2
rank_of kinds.NonRealTimePoll = 3
rank_of kinds.Station = 4

-- by kind, and each kind by id
abbrev pub goes_before : Entry → Entry → Bool
goes_before a b = nat_lt (rank_of a.kind) (rank_of b.kind) || ((rank_of a.kind == rank_of b.kind) && nat_lt a.id b.id)

-- entries in order: at each place stands the one that so many others go before
abbrev pub in_order : List Entry → List Entry
in_order es =
    flat_map (λ place. filter (λ e. count_by (λ other. goes_before other e) es == place) es) (range_with_len 0 (length es))

-- the entries of a channel
unfoldable pub entries : Tables → Channel → List Entry
entries t c = in_order (filter_map (entry_of_flow c) (with_words 0 t.flows) ++ filter_map (entry_of_station c) t.stations)
