-- The faults of a document, in the order in which they are looked for: the top level, each channel, each flow, each
-- station.
use Rattle.std.specs.Prelude.{ℕ, ◌+◌, ◌*◌, ◌/◌, ◌%◌, max, Bool, false, not, nat_eq, ◌==◌, nat_lt, nat_le, ◌&&◌, ◌||◌, List, [], ◌∷◌, ◌++◌, length, flat_map, codes, is_none, Option, Some, None}
use Rattle.std.specs.List.{list_all, list_any}
use Rattle.std.specs.Option.{option_or}
use Rattle.toml.specs.Data.{Data, table, Items, no_items, item, Members, get_member}
use Rattle.us_slots.specs.Times.{minislot_ticks}
use Rattle.us_slots.specs.Bursts.{burst_cost}
use Rattle.us_slots.specs.Lists.{first_of}
use Rattle.us_flows.specs.Ranges.{max_codeword}
use Rattle.us_flows.specs.declared.channels.Channel.{Channel}
use Rattle.us_flows.specs.declared.stations.Station.{Station}
use Rattle.us_flows.specs.declared.flows.SchedulingType.{SchedulingType}
use Rattle.us_flows.specs.declared.flows.SchedulingType.TheVariants.{BestEffort, NonRealTimePolling, RealTimePolling, ActivityDetection, UnsolicitedGrant}
use Rattle.us_flows.specs.declared.faults.Place.{Place}
use Rattle.us_flows.specs.declared.faults.TableName.TheVariants as name
use Rattle.us_flows.specs.declared.faults.ConfigFault.{ConfigFault}
use Rattle.us_flows.specs.declared.faults.ConfigFault.TheVariants as fault
use Rattle.us_flows.specs.Tables.{FlowTable, has_channel, channel_with, first_channel, sids_of}
use Rattle.us_flows.specs.Clusters.{makes_requests, has_intervals}
use Rattle.us_flows.specs.Keys.{Key, top_keys, channel_keys, profile_keys, short_keys, flow_keys, station_keys}
use Rattle.us_flows.specs.Documents.{read_or, number_at, items_at, table_at}
use Rattle.us_flows.specs.Shapes.{is_type, lacks, strays}
use Rattle.us_flows.specs.Reading.{channel_of, kind_at, flow_of, station_of, round_ticks_of, channels_of}

-- what is amiss, and the fault that it is
abbrev pub Check : Type 0
Check = Bool × ConfigFault

abbrev pub top : Place
top = record { table = name.Top; index = 0 }

abbrev pub top_checks : Members → List Check
top_checks doc = (lacks top_keys doc, fault.Missing top) ∷ (strays top_keys doc, fault.Range top) ∷ []

-- a value is a table that lacks a key; whether it is a table at all is asked elsewhere
abbrev pub is_table_without : List Key → Data → Bool
is_table_without keys (table t) = lacks keys t
is_table_without keys _ = false

abbrev pub lacks_within : List Key → List ℕ → Members → Bool
lacks_within keys profile t = read_or false (is_table_without keys) (get_member profile t)

-- a profile strays from its keys, or has codewords that are too long
abbrev pub profile_strays : List Key → Members → Bool
profile_strays keys t =
    strays keys t || nat_lt max_codeword (number_at (codes "fec_k") t + 2 * number_at (codes "fec_t") t)

-- a channel or one of its profiles lacks a key, or strays from its keys
unfoldable pub channel_lacks : Members → Bool
channel_lacks t =
    lacks channel_keys t ||
    (lacks_within profile_keys (codes "long") t ||
    (lacks_within short_keys (codes "short") t || lacks_within profile_keys (codes "unsolicited") t))

unfoldable pub channel_strays : Members → Bool
channel_strays t =
    strays channel_keys t ||
    (profile_strays profile_keys (table_at (codes "long") t) ||
    (profile_strays short_keys (table_at (codes "short") t) ||
    profile_strays profile_keys (table_at (codes "unsolicited") t)))

-- a channel: the shape of its table,
abbrev pub channel_shape : Place → Members → List Check
channel_shape place t = (channel_lacks t, fault.Missing place) ∷ (channel_strays t, fault.Range place) ∷ []

-- and its values beside the channels before it and the length of a round
abbrev pub channel_rules : Place → ℕ → List Channel → Channel → List Check
channel_rules place round earlier c =
    (has_channel earlier c.id, fault.DuplicateId place) ∷
    (not (round % minislot_ticks c.bursts.time == 0), fault.RoundNotMultiple place) ∷ (
      nat_lt (round / minislot_ticks c.bursts.time) (c.maintenance_minislots + c.contention_minislots),
      fault.ReservesTooLong place,
    ) ∷ []

unfoldable pub channel_fault : ℕ → List Channel → Members → Option ConfigFault
channel_fault round earlier t =
    let place : Place = record { table = name.Channel; index = length earlier } in
    option_or (first_of (channel_shape place t)) (first_of (channel_rules place round earlier (channel_of t)))

-- a flow: the shape of its table, of which the type is looked at first,
abbrev pub flow_shape : Place → Members → List Check
flow_shape place t =
    (is_none (get_member (codes "type") t), fault.Missing place) ∷
    (not (read_or false is_type (get_member (codes "type") t)), fault.Range place) ∷
    (lacks (flow_keys (kind_at t)) t, fault.Missing place) ∷
    (strays (flow_keys (kind_at t)) t, fault.Range place) ∷ []

-- whether a list has an item twice
abbrev pub repeats : {A : Type 0} → (A → A → Bool) → List A → Bool
repeats same [] = false
repeats same (x ∷ xs) = list_any (same x) xs || repeats same xs

-- the same SID on the same channel
abbrev pub same_sid : ℕ × ℕ → ℕ × ℕ → Bool
same_sid one other = (one.0 == other.0) && (one.1 == other.1)

abbrev pub is_taken : List FlowTable → ℕ × ℕ → Bool
is_taken earlier sid = list_any (same_sid sid) (flat_map sids_of earlier)

abbrev pub has_flow : List FlowTable → ℕ → Bool
has_flow earlier id = list_any (λ flow. flow.id == id) earlier

-- its channels, its id and its SIDs beside the channels and the flows before it; the length of its clusters is looked
-- at before its SIDs,
abbrev pub flow_names : Place → List Channel → List FlowTable → FlowTable → List Check
flow_names place channels earlier flow =
    (not (list_all (has_channel channels) flow.channels), fault.UnknownChannel place) ∷
    (has_flow earlier flow.id || repeats nat_eq flow.channels, fault.DuplicateId place) ∷
    (not (list_all (λ sids. length sids == length flow.channels) flow.clusters), fault.ClusterLength place) ∷
    (list_any (is_taken earlier) (sids_of flow) || repeats same_sid (sids_of flow), fault.DuplicateSid place) ∷ []

-- the minislots of a poll or of an unsolicited grant; where a flow has now the one and now the other, those of the longer
abbrev pub grant_slots : FlowTable → SchedulingType → Channel → ℕ
grant_slots flow BestEffort channel = 0
grant_slots flow NonRealTimePolling channel = channel.request_minislots
grant_slots flow RealTimePolling channel = channel.request_minislots
grant_slots flow ActivityDetection channel =
    max (burst_cost channel.bursts.time channel.bursts.unsolicited flow.grant_bytes) channel.request_minislots
grant_slots flow UnsolicitedGrant channel =
    burst_cost channel.bursts.time channel.bursts.unsolicited flow.grant_bytes

-- whether so many minislots pass the length of a channel's MAPs
abbrev pub is_too_long : ℕ → (Channel → ℕ) → Option Channel → Bool
is_too_long round slots None = false
is_too_long round slots (Some channel) = nat_lt (round / minislot_ticks channel.bursts.time) (slots channel)

-- and its grants and its rates, of which the minimum is at most the maximum, where there is one
abbrev pub flow_grants : Place → ℕ → List Channel → FlowTable → List Check
flow_grants place round channels flow =
    (has_intervals flow.kind && nat_le flow.interval_us flow.jitter_us, fault.Jitter place) ∷
    (is_too_long round (grant_slots flow flow.kind) (first_channel channels flow), fault.GrantLongerThanMap place) ∷
    (makes_requests flow.kind && (not flow.headers && nat_lt 1 (length flow.channels)), fault.Headers place) ∷
    (nat_lt 0 flow.rate && nat_lt flow.rate flow.min_rate, fault.MinRate place) ∷ []

-- it stands behind these others
abbrev pub flow_place : List FlowTable → Place
flow_place earlier = record { table = name.Flow; index = length earlier }

unfoldable pub flow_fault : ℕ → List Channel → List FlowTable → Members → Option ConfigFault
flow_fault round channels earlier t =
    let place : Place = flow_place earlier in
    option_or (first_of (flow_shape place t))
    (option_or (first_of (flow_names place channels earlier (flow_of t)))
    (first_of (flow_grants place round channels (flow_of t))))

-- a station: the shape of its table,
abbrev pub station_shape : Place → Members → List Check
station_shape place t = (lacks station_keys t, fault.Missing place) ∷ (strays station_keys t, fault.Range place) ∷ []

abbrev pub has_station : List Station → ℕ → Bool
has_station earlier id = list_any (λ station. station.id == id) earlier

-- and its values beside the channels and the stations before it
abbrev pub station_rules : Place → ℕ → List Channel → List Station → Station → List Check
station_rules place round channels earlier s =
    (not (has_channel channels s.channel), fault.UnknownChannel place) ∷
    (has_station earlier s.id, fault.DuplicateId place) ∷
    (nat_le s.interval_us s.jitter_us, fault.Jitter place) ∷ (
      is_too_long round (λ channel. channel.station_minislots) (channel_with channels s.channel),
      fault.GrantLongerThanMap place,
    ) ∷ []

unfoldable pub station_fault : ℕ → List Channel → List Station → Members → Option ConfigFault
station_fault round channels earlier t =
    let place : Place = record { table = name.Station; index = length earlier } in
    option_or (first_of (station_shape place t)) (first_of (station_rules place round channels earlier (station_of t)))

-- the tables of a list in turn, each judged beside those before it
module _ {A : Type 0} (of : Members → A) (fault_of : List A → Members → Option ConfigFault) where
  abbrev pub in_turn : List A → Items → Option ConfigFault
  in_turn earlier no_items = None
  in_turn earlier (item (table t) rest) = option_or (fault_of earlier t) (in_turn (earlier ++ of t ∷ []) rest)
  in_turn earlier (item _ rest) = Some (fault.Range top)

abbrev pub channels_fault : ℕ → Items → Option ConfigFault
channels_fault round items = in_turn channel_of (channel_fault round) [] items

abbrev pub flows_fault : ℕ → List Channel → Items → Option ConfigFault
flows_fault round channels items = in_turn flow_of (flow_fault round channels) [] items

abbrev pub stations_fault : ℕ → List Channel → Items → Option ConfigFault
stations_fault round channels items = in_turn station_of (station_fault round channels) [] items

-- the first fault of a document
unfoldable pub first_fault : Members → Option ConfigFault
first_fault doc =
    option_or (first_of (top_checks doc))
    (option_or (channels_fault (round_ticks_of doc) (items_at (codes "channel") doc))
    (option_or (flows_fault (round_ticks_of doc) (channels_of doc) (items_at (codes "flow") doc))
    (stations_fault (round_ticks_of doc) (channels_of doc) (items_at (codes "station") doc))))
