-- Small documents, computed by the definitions alone.
use Rattle.std.specs.Prelude.{◌≡◌, ℕ, ◌+◌, pos, true, false, if◌then◌else◌, List, [], ◌∷◌, length, map, codes, Option, Some, None, option_map, slice_get, refl}
use Rattle.std.specs.Str.{bytes_eq}
use Rattle.toml.specs.Data.{Data, integer, boolean, array, table, Items, no_items, item, Members, no_members, member}
use Rattle.us_slots.specs.Bursts.{BurstProfile, burst_cost, coded_length}
use Rattle.us_flows.specs.declared.found.Found.TheVariants.{Cluster, Activity, Unsolicited}
use Rattle.us_flows.specs.declared.flows.SchedulingType.TheVariants.{BestEffort, ActivityDetection, UnsolicitedGrant}
use Rattle.us_flows.specs.declared.faults.Place.{Place}
use Rattle.us_flows.specs.declared.faults.TableName.TheVariants as name
use Rattle.us_flows.specs.declared.faults.ConfigFault.{ConfigFault}
use Rattle.us_flows.specs.declared.faults.ConfigFault.TheVariants.{Missing, Range, UnknownChannel, DuplicateId, DuplicateSid, ClusterLength, RoundNotMultiple, ReservesTooLong, Jitter, GrantLongerThanMap, Headers, MinRate}
use Rattle.us_flows.specs.Tables.{Tables, FlowTable, rounds_fit}
use Rattle.us_flows.specs.Clusters.{Silent, Active, lookup, table_order, turns_of, words_before, words_of}
use Rattle.us_flows.specs.Turns.{turn_at}
use Rattle.us_flows.specs.Keys.{top_keys, channel_keys, profile_keys, short_keys, all_flow_keys, station_keys}
use Rattle.us_flows.specs.Checks.{top, channel_lacks, channel_strays, channel_fault, flow_fault, station_fault, first_fault}
use Rattle.us_flows.specs.Reading.{tables_of}

-- a table with another value of a key, or with one key more; and one without a key
abbrev pub with_key : List ℕ → Data → Members → Members
with_key key d no_members = member key d no_members
with_key key d (member k e t) = if bytes_eq k key then member k d t else member k e (with_key key d t)

abbrev pub without_key : List ℕ → Members → Members
without_key key no_members = no_members
without_key key (member k e t) = if bytes_eq k key then t else member k e (without_key key t)

abbrev pub number : ℕ → Data
number n = integer (pos n)

abbrev pub numbers : List ℕ → Items
numbers [] = no_items
numbers (n ∷ ns) = item (number n) (numbers ns)

abbrev pub tables : List Members → Items
tables [] = no_items
tables (t ∷ ts) = item (table t) (tables ts)

-- the base configuration
abbrev pub base_profile : Members
base_profile =
    member (codes "bits") (number 4) (member (codes "fec_k") (number 200) (member (codes "fec_t") (number 0)
    (member (codes "guard") (number 8) (member (codes "preamble") (number 24)
    (member (codes "shortened") (boolean false) no_members)))))

abbrev pub base_short : Members
base_short = with_key (codes "max_minislots") (number 10) base_profile

abbrev pub base_channel : Members
base_channel =
    member (codes "id") (number 1) (member (codes "minislot_log2") (number 1) (member (codes "rate_log2") (number 5)
    (member (codes "ucd_count") (number 0) (member (codes "ranging_backoff") (array (numbers (2 ∷ 6 ∷ [])))
    (member (codes "data_backoff") (array (numbers (3 ∷ 8 ∷ []))) (member (codes "request_minislots") (number 2)
    (member (codes "contention_minislots") (number 10) (member (codes "maintenance_minislots") (number 0)
    (member (codes "maintenance_every") (number 1) (member (codes "station_minislots") (number 4)
    (member (codes "long") (table base_profile) (member (codes "short") (table base_short)
    (member (codes "unsolicited") (table base_profile) no_members)))))))))))))

abbrev pub base_flow : Members
base_flow =
    member (codes "id") (number 1) (member (codes "type") (number 2)
    (member (codes "channels") (array (numbers (1 ∷ [])))
    (member (codes "clusters") (array (item (array (numbers (291 ∷ []))) no_items))
    (member (codes "priority") (number 0) (member (codes "rate") (number 0)
    (member (codes "burst") (number 3044) (member (codes "unit") (number 4)
    (member (codes "headers") (boolean true) no_members))))))))

-- a flow that is polled, one with unsolicited grants, and a station
abbrev pub with_intervals : Members → Members
with_intervals t =
    with_key (codes "start_us") (number 0) (with_key (codes "interval_us") (number 2000)
    (with_key (codes "jitter_us") (number 1000) t))

abbrev pub polled_flow : Members
polled_flow = with_intervals (with_key (codes "type") (number 4) base_flow)

abbrev pub granted_flow : Members
granted_flow =
    with_intervals
    (member (codes "id") (number 2) (member (codes "type") (number 6)
    (member (codes "channels") (array (numbers (1 ∷ [])))
    (member (codes "clusters") (array (item (array (numbers (300 ∷ []))) no_items))
    (member (codes "grant_bytes") (number 200) (member (codes "grants_per_interval") (number 1) no_members))))))

abbrev pub base_station : Members
base_station =
    with_intervals
    (member (codes "id") (number 1) (member (codes "channel") (number 1) (member (codes "sid") (number 291) no_members)))

abbrev pub document : List Members → List Members → Members
document channels flows =
    member (codes "round_ticks") (number 320) (member (codes "lead_ticks") (number 160)
    (member (codes "channel") (array (tables channels)) (member (codes "flow") (array (tables flows)) no_members)))

abbrev pub with_stations : List Members → Members
with_stations stations =
    with_key (codes "station") (array (tables stations)) (document (base_channel ∷ []) (base_flow ∷ granted_flow ∷ []))

abbrev pub base : Members
base = document (base_channel ∷ []) (base_flow ∷ [])

-- it has no fault, and writes these tables
no_fault : first_fault base ≡ None
unfolding first_fault channel_fault channel_lacks channel_strays flow_fault station_fault
    top_keys channel_keys profile_keys short_keys all_flow_keys station_keys
    burst_cost coded_length
no_fault = refl

abbrev pub plain_profile : BurstProfile
plain_profile = record { bits = 4; preamble = 24; guard = 8; fec_t = 0; fec_k = 200; shortened = false }

abbrev pub base_tables : Tables
base_tables = record {
  round_ticks = 320;
  lead_ticks = 160;
  channels = record {
    id = 1;
    bursts = record {
      time = record { minislot_log2 = 1; rate_log2 = 5 };
      long = plain_profile;
      short = plain_profile;
      short_max = 10;
      unsolicited = plain_profile;
    };
    ucd_count = 0;
    ranging_backoff = 2 ∷ 6 ∷ [];
    data_backoff = 3 ∷ 8 ∷ [];
    request_minislots = 2;
    contention_minislots = 10;
    maintenance_minislots = 0;
    maintenance_every = 1;
    station_minislots = 4;
  } ∷ [];
  flows = record {
    id = 1;
    kind = BestEffort;
    channels = 1 ∷ [];
    clusters = (291 ∷ []) ∷ [];
    priority = 0;
    rate = 0;
    burst = 3044;
    min_rate = 0;
    unit = 4;
    headers = true;
    start_us = 0;
    interval_us = 0;
    jitter_us = 0;
    grant_bytes = 0;
    grants_per_interval = 0;
  } ∷ [];
  stations = [];
}

written : tables_of base ≡ base_tables
written = refl

-- the places of its channel and of its flow
abbrev pub channel : Place
channel = record { table = name.Channel; index = 0 }

abbrev pub flow : Place
flow = record { table = name.Flow; index = 0 }

-- the first fault of the base configuration with another value in the top level, in its channel and in its flow
abbrev pub top_with : List ℕ → Data → Option ConfigFault
top_with key d = first_fault (with_key key d base)

abbrev pub channel_with : List ℕ → Data → Option ConfigFault
channel_with key d = first_fault (document (with_key key d base_channel ∷ []) (base_flow ∷ []))

abbrev pub flow_with : List ℕ → Data → Option ConfigFault
flow_with key d = first_fault (document (base_channel ∷ []) (with_key key d base_flow ∷ []))

top_faults :
    (first_fault (without_key (codes "lead_ticks") base) ≡ Some (Missing top)) ×
    (top_with (codes "round_ticks") (number 4097) ≡ Some (Range top)) ×
    (top_with (codes "round_ticks") (boolean true) ≡ Some (Range top)) ×
    (top_with (codes "other") (number 1) ≡ Some (Range top)) ×
    -- no channel
    (first_fault (document [] []) ≡ Some (Range top)) ×
    -- a flow that is no table
    (top_with (codes "flow") (array (numbers (7 ∷ []))) ≡ Some (Range top)) ×
    -- no flow, by an empty list and by no key
    (first_fault (document (base_channel ∷ []) []) ≡ None) ×
    (first_fault (without_key (codes "flow") base) ≡ None)
unfolding first_fault channel_fault channel_lacks channel_strays flow_fault station_fault
    top_keys channel_keys profile_keys short_keys all_flow_keys station_keys
    burst_cost coded_length
top_faults = (refl, refl, refl, refl, refl, refl, refl, refl)

-- the base profile with this T and K
abbrev pub codewords : ℕ → ℕ → Data
codewords fec_t fec_k =
    table (with_key (codes "fec_t") (number fec_t) (with_key (codes "fec_k") (number fec_k) base_profile))

channel_faults :
    (first_fault (document (without_key (codes "rate_log2") base_channel ∷ []) []) ≡ Some (Missing channel)) ×
    (channel_with (codes "id") (number 256) ≡ Some (Range channel)) ×
    (channel_with (codes "data_backoff") (array (numbers (3 ∷ []))) ≡ Some (Range channel)) ×
    -- a short profile without its maximum, and a long one with it
    (channel_with (codes "short") (table base_profile) ≡ Some (Missing channel)) ×
    (channel_with (codes "long") (table base_short) ≡ Some (Range channel)) ×
    -- a profile that is no table
    (channel_with (codes "short") (number 1) ≡ Some (Range channel)) ×
    -- codewords of 255 and of 257 bytes
    (channel_with (codes "long") (codewords 1 253) ≡ None) ×
    (channel_with (codes "long") (codewords 2 253) ≡ Some (Range channel)) ×
    -- values beside the length of a round
    (top_with (codes "round_ticks") (number 321) ≡ Some (RoundNotMultiple channel)) ×
    (channel_with (codes "minislot_log2") (number 7) ≡ Some (RoundNotMultiple channel)) ×
    (channel_with (codes "contention_minislots") (number 160) ≡ None) ×
    (channel_with (codes "contention_minislots") (number 161) ≡ Some (ReservesTooLong channel)) ×
    -- an id that is there twice
    (first_fault (document (base_channel ∷ base_channel ∷ []) []) ≡
    Some (DuplicateId (record { table = name.Channel; index = 1 })))
unfolding first_fault channel_fault channel_lacks channel_strays flow_fault station_fault
    top_keys channel_keys profile_keys short_keys all_flow_keys station_keys
    burst_cost coded_length
channel_faults = (refl, refl, refl, refl, refl, refl, refl, refl, refl, refl, refl, refl, refl)

-- a list of one list
abbrev pub cluster : List ℕ → Data
cluster sids = array (item (array (numbers sids)) no_items)

-- the base flow without an id and with this type; and on channel 9, with no SID
abbrev pub typed : ℕ → Members
typed type_number = with_key (codes "type") (number type_number) (without_key (codes "id") base_flow)

abbrev pub lost : Members
lost = with_key (codes "clusters") (cluster []) (with_key (codes "channels") (array (numbers (9 ∷ []))) base_flow)

flow_faults :
    (flow_with (codes "type") (number 7) ≡ Some (Range flow)) ×
    -- the type is looked at before a key that is missing
    (first_fault (document (base_channel ∷ []) (typed 7 ∷ [])) ≡ Some (Range flow)) ×
    (first_fault (document (base_channel ∷ []) (typed 2 ∷ [])) ≡ Some (Missing flow)) ×
    (first_fault (document (base_channel ∷ []) (without_key (codes "type") base_flow ∷ [])) ≡ Some (Missing flow)) ×
    (flow_with (codes "unit") (number 3) ≡ Some (Range flow)) ×
    (flow_with (codes "channels") (array (numbers (9 ∷ []))) ≡ Some (UnknownChannel flow)) ×
    (flow_with (codes "clusters") (cluster (291 ∷ 292 ∷ [])) ≡ Some (ClusterLength flow)) ×
    (flow_with (codes "clusters") (cluster []) ≡ Some (ClusterLength flow)) ×
    -- an unknown channel before the length of a cluster
    (first_fault (document (base_channel ∷ []) (lost ∷ [])) ≡ Some (UnknownChannel flow))
unfolding first_fault channel_fault channel_lacks channel_strays flow_fault station_fault
    top_keys channel_keys profile_keys short_keys all_flow_keys station_keys
    burst_cost coded_length
flow_faults = (refl, refl, refl, refl, refl, refl, refl, refl, refl)

-- a second flow, behind the base flow
abbrev pub second_with : Members → Option ConfigFault
second_with flow = first_fault (document (base_channel ∷ []) (base_flow ∷ flow ∷ []))

abbrev pub second : Place
second = record { table = name.Flow; index = 1 }

-- the flow with unsolicited grants, with another value
abbrev pub granted_with : List ℕ → Data → Option ConfigFault
granted_with key d = second_with (with_key key d granted_flow)

-- a flow on two channels, of which the second doesn't exist; and one on the same channel twice
abbrev pub on_channels : List ℕ → Members
on_channels ids =
    with_key (codes "channels") (array (numbers ids))
    (with_key (codes "clusters") (cluster (400 ∷ 401 ∷ [])) (with_key (codes "id") (number 3) base_flow))

-- a flow of two clusters
abbrev pub two_lists : List ℕ → List ℕ → Members
two_lists one other =
    with_key (codes "clusters") (array (item (array (numbers one)) (item (array (numbers other)) no_items)))
    (with_key (codes "id") (number 3) base_flow)

flows_beside :
    (second_with granted_flow ≡ None) ×
    (second_with base_flow ≡ Some (DuplicateId second)) ×
    (second_with (on_channels (1 ∷ 1 ∷ [])) ≡ Some (DuplicateId second)) ×
    (second_with (on_channels (1 ∷ 2 ∷ [])) ≡ Some (UnknownChannel second)) ×
    (granted_with (codes "clusters") (cluster (291 ∷ [])) ≡ Some (DuplicateSid second)) ×
    (granted_with (codes "priority") (number 0) ≡ Some (Range second)) ×
    (granted_with (codes "jitter_us") (number 2000) ≡ Some (Jitter second)) ×
    (granted_with (codes "jitter_us") (number 1999) ≡ None) ×
    -- two clusters with one SID; and a taken SID in a cluster of another length, which is found before it
    (second_with (two_lists (400 ∷ []) (400 ∷ [])) ≡ Some (DuplicateSid second)) ×
    (second_with (two_lists (291 ∷ []) (400 ∷ 401 ∷ [])) ≡ Some (ClusterLength second)) ×
    -- the MAP has 160 minislots of 64 symbols: without preamble and guard time 10,208 symbols, and so 5,104 bytes
    (granted_with (codes "grant_bytes") (number 5104) ≡ None) ×
    (granted_with (codes "grant_bytes") (number 5105) ≡ Some (GrantLongerThanMap second))
unfolding first_fault channel_fault channel_lacks channel_strays flow_fault station_fault
    top_keys channel_keys profile_keys short_keys all_flow_keys station_keys
    burst_cost coded_length
flows_beside = (refl, refl, refl, refl, refl, refl, refl, refl, refl, refl, refl, refl)

-- a flow that is polled has a schedule, and one of best effort has none
-- a round of one minislot, without a contention reserve
abbrev pub short_round : List Members → List Members → Members
short_round flows stations =
    with_key (codes "round_ticks") (number 2) (with_key (codes "station") (array (tables stations))
    (document (with_key (codes "contention_minislots") (number 0) base_channel ∷ []) flows))

schedules :
    (first_fault (document (base_channel ∷ []) (polled_flow ∷ [])) ≡ None) ×
    (first_fault (document (base_channel ∷ []) (with_key (codes "type") (number 2) polled_flow ∷ [])) ≡ Some (Range flow)) ×
    (first_fault (document (base_channel ∷ []) (with_key (codes "type") (number 3) base_flow ∷ [])) ≡ Some (Missing flow)) ×
    -- a poll of 2 minislots, and maintenance of 4, in a MAP of one
    (first_fault (short_round (polled_flow ∷ []) []) ≡ Some (GrantLongerThanMap flow)) ×
    (first_fault (short_round (base_flow ∷ []) (base_station ∷ [])) ≡
    Some (GrantLongerThanMap (record { table = name.Station; index = 0 })))
unfolding first_fault channel_fault channel_lacks channel_strays flow_fault station_fault
    top_keys channel_keys profile_keys short_keys all_flow_keys station_keys
    burst_cost coded_length
schedules = (refl, refl, refl, refl, refl)

-- a flow with activity detection has the keys of one with unsolicited grants, and one channel and one cluster; both its
-- grant and its poll have room in a MAP
abbrev pub talking_with : List ℕ → Data → Members
talking_with key d = with_key key d (with_key (codes "type") (number 5) granted_flow)

activity_faults :
    (second_with (talking_with (codes "id") (number 2)) ≡ None) ×
    (second_with (without_key (codes "grant_bytes") (talking_with (codes "id") (number 2))) ≡ Some (Missing second)) ×
    (second_with (talking_with (codes "priority") (number 0)) ≡ Some (Range second)) ×
    (second_with (talking_with (codes "channels") (array (numbers (1 ∷ 1 ∷ [])))) ≡ Some (Range second)) ×
    (second_with (talking_with (codes "clusters")
    (array (item (array (numbers (300 ∷ []))) (item (array (numbers (301 ∷ []))) no_items)))) ≡ Some (Range second)) ×
    (second_with (talking_with (codes "jitter_us") (number 2000)) ≡ Some (Jitter second)) ×
    (second_with (talking_with (codes "grant_bytes") (number 5105)) ≡ Some (GrantLongerThanMap second)) ×
    -- in a MAP of one minislot a grant of a byte has room, and a poll of 2 minislots has none
    (first_fault (short_round (with_key (codes "grant_bytes") (number 1) granted_flow ∷ []) []) ≡ None) ×
    (first_fault (short_round (talking_with (codes "grant_bytes") (number 1) ∷ []) []) ≡ Some (GrantLongerThanMap flow))
unfolding first_fault channel_fault channel_lacks channel_strays flow_fault station_fault
    top_keys channel_keys profile_keys short_keys all_flow_keys station_keys
    burst_cost coded_length
activity_faults = (refl, refl, refl, refl, refl, refl, refl, refl, refl)

-- without segment headers on two channels
abbrev pub other_channel : Members
other_channel = with_key (codes "id") (number 2) base_channel

headers_wanted :
    first_fault
    (document (base_channel ∷ other_channel ∷ []) (with_key (codes "headers") (boolean false) (on_channels (2 ∷ 1 ∷ [])) ∷ []))
    ≡ Some (Headers flow)
unfolding first_fault channel_fault channel_lacks channel_strays flow_fault station_fault
    top_keys channel_keys profile_keys short_keys all_flow_keys station_keys
    burst_cost coded_length
headers_wanted = refl

-- minimum rates beside a maximum rate, and where there is none; of a flow with unsolicited grants even 0 isn't listed
abbrev pub rates : ℕ → ℕ → Members → Members
rates rate min_rate t =
    with_key (codes "rate") (number rate) (with_key (codes "min_rate") (number min_rate) t)

abbrev pub first_with : Members → Option ConfigFault
first_with flow = first_fault (document (base_channel ∷ other_channel ∷ []) (flow ∷ []))

minimum_rates :
    (first_with (rates 1280000 1280000 base_flow) ≡ None) ×
    (first_with (rates 1280000 1280001 base_flow) ≡ Some (MinRate flow)) ×
    (first_with (rates 1 1000000000 polled_flow) ≡ Some (MinRate flow)) ×
    (first_with (rates 0 1000000000 base_flow) ≡ None) ×
    (first_with (rates 0 1000000001 base_flow) ≡ Some (Range flow)) ×
    (granted_with (codes "min_rate") (number 0) ≡ Some (Range second)) ×
    -- the place is that of the flow, and other faults of it come before
    (second_with (with_key (codes "clusters") (cluster (400 ∷ [])) (with_key (codes "id") (number 3)
    (rates 1 2 base_flow))) ≡ Some (MinRate second)) ×
    (first_with (with_key (codes "headers") (boolean false) (rates 1 2 (on_channels (2 ∷ 1 ∷ [])))) ≡ Some (Headers flow))
unfolding first_fault channel_fault channel_lacks channel_strays flow_fault station_fault
    top_keys channel_keys profile_keys short_keys all_flow_keys station_keys
    burst_cost coded_length
minimum_rates = (refl, refl, refl, refl, refl, refl, refl, refl)

-- stations: one with a flow's SID, two of one id, one on no channel, and one whose jitter is its interval
abbrev pub station : ℕ → Place
station index = record { table = name.Station; index = index }

station_faults :
    (first_fault (with_stations (base_station ∷ [])) ≡ None) ×
    (first_fault (with_stations (base_station ∷ base_station ∷ [])) ≡ Some (DuplicateId (station 1))) ×
    (first_fault (with_stations (with_key (codes "channel") (number 9) base_station ∷ [])) ≡ Some (UnknownChannel (station 0))) ×
    (first_fault (with_stations (with_key (codes "jitter_us") (number 2000) base_station ∷ [])) ≡ Some (Jitter (station 0))) ×
    (first_fault (with_stations (without_key (codes "sid") base_station ∷ [])) ≡ Some (Missing (station 0)))
unfolding first_fault channel_fault channel_lacks channel_strays flow_fault station_fault
    top_keys channel_keys profile_keys short_keys all_flow_keys station_keys
    burst_cost coded_length
station_faults = (refl, refl, refl, refl, refl)

-- SIDs and runs
found : (lookup base_tables 1 291 ≡ Some (Cluster 0)) × (lookup base_tables 2 291 ≡
    None) × (lookup base_tables 1 292 ≡ None)
unfolding lookup
found = (refl, refl, refl)

rounds : (rounds_fit base_tables 209715 ≡ true) × (rounds_fit base_tables 209716 ≡
    false) × (rounds_fit base_tables 0 ≡ false)
rounds = (refl, refl, refl)

-- a flow of this id and priority with two clusters
abbrev pub two_clusters : ℕ → ℕ → FlowTable
two_clusters id priority = record {
  id = id;
  kind = BestEffort;
  channels = 1 ∷ [];
  clusters = (id ∷ []) ∷ ((id + 10) ∷ []) ∷ [];
  priority = priority;
  rate = 0;
  burst = 3044;
  min_rate = 0;
  unit = 1;
  headers = true;
  start_us = 0;
  interval_us = 0;
  jitter_us = 0;
  grant_bytes = 0;
  grants_per_interval = 0;
}

-- one with unsolicited grants, whose cluster has no number and no turn
abbrev pub granted : FlowTable
granted = record (two_clusters 7 0) {
  kind = UnsolicitedGrant;
  clusters = (500 ∷ []) ∷ [];
  interval_us = 2000;
  grant_bytes = 200;
  grants_per_interval = 1;
}

abbrev pub four_tables : Tables
four_tables = record base_tables { flows = two_clusters 9 1 ∷ granted ∷ two_clusters 8 1 ∷ two_clusters 10 2 ∷ [] }

found_among_four :
    (lookup four_tables 1 19 ≡ Some (Cluster 1)) × (lookup four_tables 1 500 ≡ Some Unsolicited) ×
    (lookup four_tables 1 8 ≡ Some (Cluster 2)) × (lookup four_tables 2 500 ≡ None)
unfolding lookup
found_among_four = (refl, refl, refl, refl)

-- with a flow behind the first that tells its activity
abbrev pub talking : FlowTable
talking = record granted { id = 6; kind = ActivityDetection; clusters = (501 ∷ []) ∷ [] }

abbrev pub five_tables : Tables
five_tables = record base_tables {
  flows = two_clusters 9 1 ∷ talking ∷ granted ∷ two_clusters 8 1 ∷ two_clusters 10 2 ∷ [];
}

-- its words stand behind those of the first flow, and the numbers of later words are two more
activity_in_five :
    (length (words_of five_tables) ≡ 8) × (words_before five_tables.flows 1 ≡ 2) ×
    (slice_get (words_of five_tables) 2 ≡ Some (Silent talking)) ×
    (slice_get (words_of five_tables) 3 ≡ Some (Active talking)) ×
    (lookup five_tables 1 501 ≡ Some (Activity 2)) × (lookup five_tables 1 500 ≡ Some Unsolicited) ×
    (lookup five_tables 1 19 ≡ Some (Cluster 1)) × (lookup five_tables 1 8 ≡ Some (Cluster 4)) ×
    (lookup five_tables 2 501 ≡ None)
unfolding lookup
activity_in_five = (refl, refl, refl, refl, refl, refl, refl, refl, refl)

-- and it has no turn
turns_of_five :
    (map (λ turn. turn.number) (table_order five_tables) ≡ 0 ∷ 1 ∷ 4 ∷ 5 ∷ 6 ∷ 7 ∷ []) ×
    (map (λ turn. turn.number) (turns_of five_tables) ≡ 6 ∷ 7 ∷ 4 ∷ 5 ∷ 0 ∷ 1 ∷ [])
unfolding turns_of
turns_of_five = (refl, refl)

-- numbers go on from flow to flow, and places count flows without requests too
numbered_in_table_order :
    (map (λ turn. turn.number) (table_order four_tables) ≡ 0 ∷ 1 ∷ 2 ∷ 3 ∷ 4 ∷ 5 ∷ []) ×
    (map (λ turn. turn.place) (table_order four_tables) ≡ 0 ∷ 0 ∷ 2 ∷ 2 ∷ 3 ∷ 3 ∷ [])
numbered_in_table_order = (refl, refl)

-- priority falling, then id rising, then the clusters of the flow in order
three_flows :
    (map (λ turn. turn.number) (turns_of four_tables) ≡ 4 ∷ 5 ∷ 2 ∷ 3 ∷ 0 ∷ 1 ∷ []) ×
    (map (λ turn. turn.place) (turns_of four_tables) ≡ 3 ∷ 3 ∷ 2 ∷ 2 ∷ 0 ∷ 0 ∷ [])
unfolding turns_of
three_flows = (refl, refl)

-- the places of the first of these turns, and places where there is no cluster
places :
    (option_map (λ turn. turn.cluster.flow.id) (turn_at four_tables (record { flow = 3; list = 0; cluster = 4 })) ≡ Some 10) ×
    (turn_at four_tables (record { flow = 3; list = 2; cluster = 4 }) ≡ None) ×
    (turn_at four_tables (record { flow = 4; list = 0; cluster = 4 }) ≡ None)
places = (refl, refl, refl)
