-- The keys of each table of a configuration, and the rule of each value: of two numbers the first is the least and the
-- second the greatest.
use Rattle.std.specs.Prelude.{ℕ, Bool, true, not, if◌then◌else◌, List, [], ◌∷◌, ◌++◌, map, codes}
use Rattle.std.specs.Borrow.{Bor}
use Rattle.us_flows.specs.Ranges.{max_channels, max_flows, max_stations, max_round_ticks, max_lead_ticks, max_channel_id, max_minislot_log2, max_rate_log2, max_ucd_count, max_exponent, max_request_minislots, max_reserve_minislots, max_station_minislots, max_maintenance_every, min_bits, max_bits, max_preamble, max_guard, max_fec_t, min_fec_k, max_fec_k, max_short_minislots, max_id, max_unicast_sid, max_channels_of_flow, max_clusters_of_flow, max_priority, max_rate, max_burst, max_grant_bytes, max_grants, min_interval_us, max_us}
use Rattle.us_flows.specs.declared.flows.SchedulingType.{SchedulingType}
use Rattle.us_flows.specs.declared.keys.Rule.{Rule}
use Rattle.us_flows.specs.declared.keys.Rule.TheVariants as rule
use Rattle.us_flows.specs.declared.keys.Types.{Types}
use Rattle.us_flows.specs.declared.keys.Types.TheVariants as types
use Rattle.us_flows.specs.Clusters.{makes_requests, has_intervals}

-- a key by its name, and the rule of its value
abbrev pub Key : Type 0
Key = List ℕ × Rule

-- the same as the code keeps them
abbrev pub keys_of : List (Bor (List ℕ) × Rule) → List Key
keys_of keys = map (λ key. (key.0.now, key.1)) keys

unfoldable pub top_keys : List Key
top_keys =
    (codes "round_ticks", rule.Number 1 max_round_ticks) ∷
    (codes "lead_ticks", rule.Number 1 max_lead_ticks) ∷
    (codes "channel", rule.Tables 1 max_channels) ∷
    (codes "flow", rule.Tables 0 max_flows) ∷
    (codes "station", rule.Tables 0 max_stations) ∷ []

unfoldable pub channel_keys : List Key
channel_keys =
    (codes "id", rule.Number 1 max_channel_id) ∷
    (codes "minislot_log2", rule.Number 0 max_minislot_log2) ∷
    (codes "rate_log2", rule.Number 0 max_rate_log2) ∷
    (codes "ucd_count", rule.Number 0 max_ucd_count) ∷
    (codes "ranging_backoff", rule.Numbers 2 2 0 max_exponent) ∷
    (codes "data_backoff", rule.Numbers 2 2 0 max_exponent) ∷
    (codes "request_minislots", rule.Number 1 max_request_minislots) ∷
    (codes "contention_minislots", rule.Number 0 max_reserve_minislots) ∷
    (codes "maintenance_minislots", rule.Number 0 max_reserve_minislots) ∷
    (codes "maintenance_every", rule.Number 1 max_maintenance_every) ∷
    (codes "station_minislots", rule.Number 1 max_station_minislots) ∷
    (codes "long", rule.Table) ∷
    (codes "short", rule.Table) ∷
    (codes "unsolicited", rule.Table) ∷ []

unfoldable pub profile_keys : List Key
profile_keys =
    (codes "bits", rule.Number min_bits max_bits) ∷
    (codes "preamble", rule.Number 0 max_preamble) ∷
    (codes "guard", rule.Number 0 max_guard) ∷
    (codes "fec_t", rule.Number 0 max_fec_t) ∷
    (codes "fec_k", rule.Number min_fec_k max_fec_k) ∷
    (codes "shortened", rule.Flag) ∷ []

-- a profile of short data grants has one key more
unfoldable pub short_keys : List Key
short_keys = profile_keys ++ (codes "max_minislots", rule.Number 1 max_short_minislots) ∷ []

-- whether a flow of a type has a key of these types
abbrev pub has_key : Types → SchedulingType → Bool
has_key types.All kind = true
has_key types.Requesting kind = makes_requests kind
has_key types.AtIntervals kind = has_intervals kind
has_key types.Unsolicited kind = not (makes_requests kind)

-- a key of flows, the types that have it, and the rule of its value
abbrev pub FlowKey : Type 0
FlowKey = List ℕ × Types × Rule

-- the same as the code keeps them
abbrev pub typed_keys_of : List (Bor (List ℕ) × Types × Rule) → List FlowKey
typed_keys_of keys = map (λ key. (key.0.now, key.1, key.2)) keys

unfoldable pub all_flow_keys : List FlowKey
all_flow_keys =
    (codes "id", types.All, rule.Number 1 max_id) ∷
    (codes "type", types.All, rule.Type) ∷
    (codes "channels", types.Requesting, rule.Numbers 1 max_channels_of_flow 1 max_channel_id) ∷
    (codes "channels", types.Unsolicited, rule.Numbers 1 1 1 max_channel_id) ∷
    (codes "clusters", types.Requesting, rule.Lists 1 max_clusters_of_flow 1 max_unicast_sid) ∷
    (codes "clusters", types.Unsolicited, rule.Lists 1 1 1 max_unicast_sid) ∷
    (codes "priority", types.Requesting, rule.Number 0 max_priority) ∷
    (codes "rate", types.Requesting, rule.Number 0 max_rate) ∷
    (codes "burst", types.Requesting, rule.Number 1 max_burst) ∷
    (codes "min_rate", types.Requesting, rule.OptionalNumber 0 max_rate) ∷
    (codes "unit", types.Requesting, rule.Unit) ∷
    (codes "headers", types.Requesting, rule.Flag) ∷
    (codes "start_us", types.AtIntervals, rule.Number 0 max_us) ∷
    (codes "interval_us", types.AtIntervals, rule.Number min_interval_us max_us) ∷
    (codes "jitter_us", types.AtIntervals, rule.Number 0 max_us) ∷
    (codes "grant_bytes", types.Unsolicited, rule.Number 1 max_grant_bytes) ∷
    (codes "grants_per_interval", types.Unsolicited, rule.Number 1 max_grants) ∷ []

-- those of a list that a type has
abbrev pub keys_of_type : SchedulingType → List FlowKey → List Key
keys_of_type kind [] = []
keys_of_type kind (key ∷ keys) =
    if has_key key.1 kind then (key.0, key.2) ∷ keys_of_type kind keys else keys_of_type kind keys

-- a flow has the keys of its type
abbrev pub flow_keys : SchedulingType → List Key
flow_keys kind = keys_of_type kind all_flow_keys

unfoldable pub station_keys : List Key
station_keys =
    (codes "id", rule.Number 1 max_id) ∷
    (codes "channel", rule.Number 1 max_channel_id) ∷
    (codes "sid", rule.Number 1 max_unicast_sid) ∷
    (codes "start_us", rule.Number 0 max_us) ∷
    (codes "interval_us", rule.Number min_interval_us max_us) ∷
    (codes "jitter_us", rule.Number 0 max_us) ∷ []
