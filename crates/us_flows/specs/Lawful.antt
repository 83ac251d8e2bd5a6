-- What holds of all tables that are accepted: their ranges, and what one table has to do with another.
use Rattle.std.specs.Prelude.{◌≡◌, ◌≢◌, ◌⊎◌, ℕ, ◌+◌, ◌*◌, ◌<◌, ◌≤◌, ⊤, true, false, List, [], ◌∷◌, length, map, flat_map, Option, Some, None}
use Rattle.std.specs.List.{AllByRecursion}
use Rattle.std.specs.Int.{IsInRange}
use Rattle.us_slots.specs.Times.{minislot_ticks}
use Rattle.us_slots.specs.Bursts.{IsChannelBursts, burst_cost}
use Rattle.us_flows.specs.Ranges.{max_channels, max_flows, max_stations, max_round_ticks, max_lead_ticks, max_channel_id, max_ucd_count, max_exponent, max_request_minislots, max_station_minislots, max_maintenance_every, max_id, max_unicast_sid, max_channels_of_flow, max_clusters_of_flow, max_priority, max_rate, max_burst, max_unit, max_grant_bytes, max_grants, min_interval_us, max_us}
use Rattle.us_flows.specs.declared.channels.Channel.{Channel}
use Rattle.us_flows.specs.declared.stations.Station.{Station}
use Rattle.us_flows.specs.declared.flows.SchedulingType.{SchedulingType}
use Rattle.us_flows.specs.declared.flows.SchedulingType.TheVariants.{BestEffort, NonRealTimePolling, RealTimePolling, ActivityDetection, UnsolicitedGrant}
use Rattle.us_flows.specs.Tables.{Tables, FlowTable, map_len, has_channel, channel_with, first_channel, sids_of}

-- no item stands in a list twice
abbrev pub AreApart : {A : Type 0} → List A → Type 0
AreApart [] = ⊤
AreApart (x ∷ xs) = AllByRecursion (λ y. x ≢ y) xs × AreApart xs

-- two exponents of 2, the start and the end of a backoff window
pub record IsBackoff (b : List ℕ) : Type 0 where
  pub two : length b ≡ 2
  pub each : AllByRecursion (λ exponent. exponent ≤ max_exponent) b

pub record IsChannel (t : Tables) (c : Channel) : Type 0 where
  pub id : IsInRange 1 max_channel_id c.id
  pub bursts : IsChannelBursts c.bursts
  pub ucd_count : c.ucd_count ≤ max_ucd_count
  pub ranging_backoff : IsBackoff c.ranging_backoff
  pub data_backoff : IsBackoff c.data_backoff
  pub request_minislots : IsInRange 1 max_request_minislots c.request_minislots
  pub maintenance_every : IsInRange 1 max_maintenance_every c.maintenance_every
  pub station_minislots : IsInRange 1 max_station_minislots c.station_minislots
  -- a MAP has a minislot at least, and a round is a whole number of them
  pub len : IsInRange 1 max_round_ticks (map_len t c)
  pub whole : map_len t c * minislot_ticks c.bursts.time ≡ t.round_ticks
  -- and both reserves together have room in it
  pub reserves : c.maintenance_minislots + c.contention_minislots ≤ map_len t c

-- there is such a channel, and so many minislots have room in its MAPs
abbrev pub Fits : Tables → (Channel → ℕ) → Option Channel → Type 0
Fits t slots None = ⊥
Fits t slots (Some channel) = slots channel ≤ map_len t channel

-- the bytes of a unit of a request
abbrev pub IsUnit : ℕ → Type 0
IsUnit n = (n ≡ 1) ⊎ ((n ≡ 2) ⊎ ((n ≡ 4) ⊎ ((n ≡ 8) ⊎ (n ≡ 16))))

-- when intervals begin, how long they are, and the jitter, which is below that, in microseconds
pub record IsSchedule (start_us interval_us jitter_us : ℕ) : Type 0 where
  pub start : start_us ≤ max_us
  pub interval : IsInRange min_interval_us max_us interval_us
  pub jitter : jitter_us < interval_us

-- a flow that makes requests; under a maximum rate its minimum rate is at most that, and without segment headers it has
-- one channel
pub record IsRequesting (f : FlowTable) : Type 0 where
  pub burst : 1 ≤ f.burst
  pub min_rate : 0 < f.rate → f.min_rate ≤ f.rate
  pub unit : IsUnit f.unit
  pub headers : f.headers ≡ false → length f.channels ≡ 1

-- a flow that is polled; a request has room in a MAP of its first channel
pub record IsPolled (t : Tables) (f : FlowTable) : Type 0 where
  pub schedule : IsSchedule f.start_us f.interval_us f.jitter_us
  pub poll : Fits t (λ channel. channel.request_minislots) (first_channel t.channels f)

-- a flow with unsolicited grants, which has one SID on one channel; a grant has room in a MAP
pub record IsUnsolicited (t : Tables) (f : FlowTable) : Type 0 where
  pub schedule : IsSchedule f.start_us f.interval_us f.jitter_us
  pub one_channel : length f.channels ≡ 1
  pub one_cluster : length f.clusters ≡ 1
  pub grant_bytes : 1 ≤ f.grant_bytes
  pub grants : 1 ≤ f.grants_per_interval
  pub grant : Fits t (λ channel. burst_cost channel.bursts.time channel.bursts.unsolicited f.grant_bytes)
      (first_channel t.channels f)

-- what a flow doesn't have is 0, or false: a flow that makes no requests,
pub record MakesNoRequests (f : FlowTable) : Type 0 where
  pub priority : f.priority ≡ 0
  pub rate : f.rate ≡ 0
  pub burst : f.burst ≡ 0
  pub min_rate : f.min_rate ≡ 0
  pub unit : f.unit ≡ 0
  pub headers : f.headers ≡ false

-- one without intervals,
pub record HasNoSchedule (f : FlowTable) : Type 0 where
  pub start_us : f.start_us ≡ 0
  pub interval_us : f.interval_us ≡ 0
  pub jitter_us : f.jitter_us ≡ 0

-- and one without unsolicited grants
pub record HasNoGrants (f : FlowTable) : Type 0 where
  pub grant_bytes : f.grant_bytes ≡ 0
  pub grants : f.grants_per_interval ≡ 0

-- what a flow of a scheduling type doesn't have
abbrev pub HasNoOthers : FlowTable → SchedulingType → Type 0
HasNoOthers f BestEffort = HasNoSchedule f × HasNoGrants f
HasNoOthers f NonRealTimePolling = HasNoGrants f
HasNoOthers f RealTimePolling = HasNoGrants f
HasNoOthers f ActivityDetection = MakesNoRequests f
HasNoOthers f UnsolicitedGrant = MakesNoRequests f

-- what a scheduling type asks of a flow
abbrev pub IsScheduled : Tables → FlowTable → SchedulingType → Type 0
IsScheduled t f BestEffort = IsRequesting f
IsScheduled t f NonRealTimePolling = IsRequesting f × IsPolled t f
IsScheduled t f RealTimePolling = IsRequesting f × IsPolled t f
IsScheduled t f ActivityDetection = IsUnsolicited t f × IsPolled t f
IsScheduled t f UnsolicitedGrant = IsUnsolicited t f

pub record IsFlow (t : Tables) (f : FlowTable) : Type 0 where
  pub id : IsInRange 1 max_id f.id
  -- each of its channels is one of the table, and is there once
  pub some_channels : IsInRange 1 max_channels_of_flow (length f.channels)
  pub channels : AllByRecursion (λ id. has_channel t.channels id ≡ true) f.channels
  pub apart : AreApart f.channels
  -- a cluster has a SID for each channel
  pub some_clusters : IsInRange 1 max_clusters_of_flow (length f.clusters)
  pub sids : AllByRecursion
      (λ sids. (length sids ≡ length f.channels) × AllByRecursion (IsInRange 1 max_unicast_sid) sids) f.clusters
  -- whatever its type is,
  pub priority : f.priority ≤ max_priority
  pub rate : f.rate ≤ max_rate
  pub burst : f.burst ≤ max_burst
  pub min_rate : f.min_rate ≤ max_rate
  pub unit : f.unit ≤ max_unit
  pub start_us : f.start_us ≤ max_us
  pub interval_us : f.interval_us ≤ max_us
  pub jitter_us : f.jitter_us ≤ max_us
  pub grant_bytes : f.grant_bytes ≤ max_grant_bytes
  pub grants : f.grants_per_interval ≤ max_grants
  -- what its type asks of it, and what its type has no key for
  pub scheduled : IsScheduled t f f.kind
  pub others : HasNoOthers f f.kind

pub record IsStation (t : Tables) (s : Station) : Type 0 where
  pub id : IsInRange 1 max_id s.id
  pub channel : has_channel t.channels s.channel ≡ true
  pub sid : IsInRange 1 max_unicast_sid s.sid
  pub schedule : IsSchedule s.start_us s.interval_us s.jitter_us
  pub maintenance : Fits t (λ channel. channel.station_minislots) (channel_with t.channels s.channel)

pub record AreTables (t : Tables) : Type 0 where
  pub round_ticks : IsInRange 1 max_round_ticks t.round_ticks
  pub lead_ticks : IsInRange 1 max_lead_ticks t.lead_ticks
  pub channels : AllByRecursion (IsChannel t) t.channels
  pub flows : AllByRecursion (IsFlow t) t.flows
  pub stations : AllByRecursion (IsStation t) t.stations
  pub some_channels : IsInRange 1 max_channels (length t.channels)
  pub few_flows : length t.flows ≤ max_flows
  pub few_stations : length t.stations ≤ max_stations
  -- ids are apart, and on a channel no SID belongs to two clusters
  pub channels_apart : AreApart (map (λ c. c.id) t.channels)
  pub flows_apart : AreApart (map (λ f. f.id) t.flows)
  pub stations_apart : AreApart (map (λ s. s.id) t.stations)
  pub sids_apart : AreApart (flat_map sids_of t.flows)
