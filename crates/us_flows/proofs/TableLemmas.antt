-- A document without a fault writes lawful tables.
use Rattle.std.proofs.Common.{◌≡◌, ℕ, zero, suc, ◌+◌, ◌*◌, ◌/◌, ◌%◌, ◌^◌, ◌<◌, ◌≤◌, ◌==◌, max, nat_eq, nat_lt, nat_le, Bool, true, false, not, ◌&&◌, List, [], ◌∷◌, ◌++◌, length, map, flat_map, codes, Option, Some, None, append_assoc, refl, sym, subst, ◌∙◌, ap, arith, inl, inr}
use Rattle.std.specs.Prelude.{Err, is_some, option_and_then, slice_get}
use Rattle.std.specs.List.{AllByRecursion, list_all, list_any}
use Rattle.std.specs.Option.{option_or}
use Rattle.std.proofs.lemmas.Bool.{cases_Bool, and_parts, or_parts, eqb-true, lt-ltb, le-ltb, ltb-false, leb-false, not-false, false≢true}
use Rattle.std.proofs.Math.Nat.{div-le_self}
use Rattle.std.proofs.lemmas.Nat.{div-add-mod'}
use Rattle.std.proofs.lemmas.List.{append-nil}
use Rattle.std.specs.Int.{IsInRange}
use Rattle.toml.specs.Data.{Data, string, integer, float, boolean, datetime, array, table, Items, no_items, item, Members, get_member}
use Rattle.toml.specs.declared.value.Value.{Value}
use Rattle.toml.specs.View.{items_view}
use Rattle.us_slots.specs.Times.{minislot_ticks}
use Rattle.us_flows.specs.Ranges.{min_interval_us, max_channels, max_flows, max_lead_ticks, max_round_ticks, max_unicast_sid, max_stations, max_us}
use Rattle.us_flows.specs.declared.channels.Channel.{Channel}
use Rattle.us_flows.specs.declared.stations.Station.{Station}
use Rattle.us_flows.specs.declared.flows.SchedulingType.{SchedulingType}
use Rattle.us_flows.specs.declared.flows.SchedulingType.TheVariants.{BestEffort, NonRealTimePolling, RealTimePolling, ActivityDetection, UnsolicitedGrant}
use Rattle.us_flows.specs.declared.faults.Place.{Place}
use Rattle.us_flows.specs.declared.faults.TableName.TheVariants as name
use Rattle.us_flows.specs.declared.faults.ConfigFault.{ConfigFault}
use Rattle.us_flows.specs.Tables.{Tables, FlowTable, map_len, has_channel, channel_with, first_channel, sids_of}
use Rattle.us_flows.specs.Clusters.{makes_requests, has_intervals}
use Rattle.us_flows.specs.Keys.{top_keys}
use Rattle.us_flows.specs.Lawful.{AreApart, Fits, IsSchedule, IsChannel, IsRequesting, IsPolled, IsUnsolicited, IsScheduled, IsFlow, IsStation, AreTables}
use Rattle.us_flows.specs.Documents.{number_at, flag_at, numbers_of, lists_of, items_of, items_at, read_or}
use Rattle.us_flows.specs.Shapes.{is_number, is_number_list, is_list, is_table, count, all_items, allows, lacks, strays}
use Rattle.us_slots.specs.Lists.{first_of}
use Rattle.us_flows.specs.Checks.{top_checks, channel_shape, channel_rules, channel_fault, repeats, same_sid, is_taken, has_flow, flow_place, flow_shape, flow_names, grant_slots, is_too_long, flow_grants, flow_fault, station_shape, station_rules, station_fault, in_turn, channels_fault, flows_fault, stations_fault, first_fault}
use Rattle.us_flows.specs.Reading.{channel_of, kind_at, flow_of, station_of, all_of, round_ticks_of, channels_of, flows_of, stations_of, tables_of}
use Rattle.us_flows.specs.Answers.{Judged}
use Rattle.us_flows.proofs.DocumentLemmas.{count_view}
use Rattle.us_flows.proofs.JudgedLemmas.{judged, first_judged}
use Rattle.us_flows.proofs.CheckLemmas.{or_else_none, none_finds}
use Rattle.us_flows.proofs.ApartLemmas.{keys_apart, ids_apart, sids_apart}
use Rattle.us_flows.proofs.ShapeLemmas.{length-numbers_of, length-lists_of, found_allowed, number_in_range, number_between}
use Rattle.us_flows.proofs.ChannelLemmas.{list_items, list_in_range, channel_ranges}
use Rattle.us_flows.proofs.FlowLemmas.{FlowRanges, RequestRanges, GrantRanges, KindRanges, kind_ranges, numbers_within, others_absent}
use Rattle.us_flows.proofs.StationLemmas.{station_ranges}

-- The top level.

pub record TopRanges (doc : Members) : Type 0 where
  pub round_ticks : IsInRange 1 max_round_ticks (number_at (codes "round_ticks") doc)
  pub lead_ticks : IsInRange 1 max_lead_ticks (number_at (codes "lead_ticks") doc)
  pub channels : IsInRange 1 max_channels (count (items_at (codes "channel") doc))
  pub flows : count (items_at (codes "flow") doc) ≤ max_flows
  pub stations : count (items_at (codes "station") doc) ≤ max_stations

-- a list that may be left out
few_items : (doc : Members) (k : List ℕ) (many : ℕ) → strays top_keys doc ≡ false →
    ((d : Data) → allows top_keys k d ≡ is_list 0 many is_table d) → count (items_at k doc) ≤ many
few_items doc k many ranged by_rule = few (get_member k doc) refl
  where
    few : (found : Option Data) → get_member k doc ≡ found → count (read_or no_items items_of found) ≤ many
    few None is = omega arith
    few (Some d) is = (list_items 0 many is_table d (sym (by_rule d) ∙ found_allowed top_keys k d doc ranged is)).0.1

pub top_ranges : (doc : Members) → lacks top_keys doc ≡ false → strays top_keys doc ≡ false → TopRanges doc
unfolding top_keys
top_ranges doc w r = record {
  round_ticks = number_in_range top_keys doc (codes "round_ticks") 1 max_round_ticks w r refl (λ d. refl);
  lead_ticks = number_in_range top_keys doc (codes "lead_ticks") 1 max_lead_ticks w r refl (λ d. refl);
  channels = (list_in_range top_keys doc (codes "channel") 1 max_channels is_table w r refl (λ d. refl)).0;
  flows = few_items doc (codes "flow") max_flows r (λ d. refl);
  stations = few_items doc (codes "station") max_stations r (λ d. refl);
}

pub top_is : (doc : Members) → first_of (top_checks doc) ≡ None → TopRanges doc
top_is doc h =
    let none = none_finds (top_checks doc) h in
    top_ranges doc none.0 none.1.0

-- Lists of tables.

length-all_of : {A : Type 0} (of : Members → A) (items : Items) → length (all_of of items) ≡ count items
length-all_of of no_items = refl
length-all_of of (item d ds) = omega (arith, length-all_of of ds)

-- what holds of each table that has no fault holds of all
all_in_turn : {A : Type 0} (of : Members → A) (fault_of : List A → Members → Option ConfigFault) (Is : A → Type 0) →
    ((earlier : List A) (t : Members) → fault_of earlier t ≡ None → Is (of t)) →
    (earlier : List A) (items : Items) → in_turn of fault_of earlier items ≡ None → AllByRecursion Is (all_of of items)
all_in_turn of fault_of Is each earlier no_items h = tt
all_in_turn of fault_of Is each earlier (item (table t) rest) h =
    let parts = or_else_none (fault_of earlier t) (in_turn of fault_of (earlier ++ of t ∷ []) rest) h in
    (each earlier t parts.0, all_in_turn of fault_of Is each (earlier ++ of t ∷ []) rest parts.1)
all_in_turn of fault_of Is each earlier (item (string s) rest) h = let no : Some _ ≡ None = h in cc
all_in_turn of fault_of Is each earlier (item (integer z) rest) h = let no : Some _ ≡ None = h in cc
all_in_turn of fault_of Is each earlier (item (float x) rest) h = let no : Some _ ≡ None = h in cc
all_in_turn of fault_of Is each earlier (item (boolean b) rest) h = let no : Some _ ≡ None = h in cc
all_in_turn of fault_of Is each earlier (item (datetime x) rest) h = let no : Some _ ≡ None = h in cc
all_in_turn of fault_of Is each earlier (item (array ds) rest) h = let no : Some _ ≡ None = h in cc

-- what each table that has no fault keeps, all of them keep
kept_in_turn : {A : Type 0} (of : Members → A) (fault_of : List A → Members → Option ConfigFault) (Kept : List A → Type 0) →
    ((earlier : List A) (t : Members) → fault_of earlier t ≡ None → Kept earlier → Kept (earlier ++ of t ∷ [])) →
    (earlier : List A) (items : Items) → in_turn of fault_of earlier items ≡ None → Kept earlier →
    Kept (earlier ++ all_of of items)
kept_in_turn of fault_of Kept step earlier no_items h start = rw (append-nil earlier) start
kept_in_turn of fault_of Kept step earlier (item (table t) rest) h start =
    let parts = or_else_none (fault_of earlier t) (in_turn of fault_of (earlier ++ of t ∷ []) rest) h in
    subst Kept (append_assoc earlier (of t ∷ []) (all_of of rest))
    (kept_in_turn of fault_of Kept step (earlier ++ of t ∷ []) rest parts.1 (step earlier t parts.0 start))
kept_in_turn of fault_of Kept step earlier (item (string s) rest) h start = let no : Some _ ≡ None = h in cc
kept_in_turn of fault_of Kept step earlier (item (integer z) rest) h start = let no : Some _ ≡ None = h in cc
kept_in_turn of fault_of Kept step earlier (item (float x) rest) h start = let no : Some _ ≡ None = h in cc
kept_in_turn of fault_of Kept step earlier (item (boolean b) rest) h start = let no : Some _ ≡ None = h in cc
kept_in_turn of fault_of Kept step earlier (item (datetime x) rest) h start = let no : Some _ ≡ None = h in cc
kept_in_turn of fault_of Kept step earlier (item (array ds) rest) h start = let no : Some _ ≡ None = h in cc

-- Channels.

whole_round : (round ticks : ℕ) → not (round % ticks == 0) ≡ false → round / ticks * ticks ≡ round
whole_round round ticks h =
    let none : round % ticks ≡ 0 = eqb-true (round % ticks) 0 (not-false (round % ticks == 0) h) in
    let parts = div-add-mod' round ticks in
    omega (arith, none, parts)

-- a round of whole minislots has one at least, and no more than it has ticks
some_minislots : (round ticks : ℕ) → IsInRange 1 max_round_ticks round → round / ticks * ticks ≡ round → IsInRange 1 max_round_ticks (round / ticks)
some_minislots round ticks range whole =
    (some (round / ticks) ticks whole, omega (arith, div-le_self round ticks, range.1))
  where
    some : (len ticks : ℕ) → len * ticks ≡ round → 1 ≤ len
    some zero ticks h = absurd (omega (arith, h, range.0))
    some (suc len) ticks h = omega arith

channel_is : (t : Tables) → IsInRange 1 max_round_ticks t.round_ticks → (earlier : List Channel) (m : Members) →
    channel_fault t.round_ticks earlier m ≡ None → IsChannel t (channel_of m)
unfolding channel_fault
channel_is t range earlier m h =
    let place : Place = record { table = name.Channel; index = length earlier } in
    let c : Channel = channel_of m in
    let parts = or_else_none (first_of (channel_shape place m)) (first_of (channel_rules place t.round_ticks earlier c)) h in
    let shape = none_finds (channel_shape place m) parts.0 in
    let rules = none_finds (channel_rules place t.round_ticks earlier c) parts.1 in
    let ranges = channel_ranges m shape.0 shape.1.0 in
    let whole = whole_round t.round_ticks (minislot_ticks c.bursts.time) rules.1.0 in
    record {
      id = ranges.id;
      bursts = ranges.bursts;
      ucd_count = ranges.ucd_count;
      ranging_backoff = ranges.ranging;
      data_backoff = ranges.data_backoff;
      request_minislots = ranges.request_minislots;
      maintenance_every = ranges.maintenance_every;
      station_minislots = ranges.station_minislots;
      len = some_minislots t.round_ticks (minislot_ticks c.bursts.time) range whole;
      whole = whole;
      reserves = ltb-false (map_len t c) (c.maintenance_minislots + c.contention_minislots) rules.1.1.0;
    }

channels_stay_apart : (round : ℕ) (earlier : List Channel) (m : Members) → channel_fault round earlier m ≡ None →
    AreApart (map (λ c. c.id) earlier) → AreApart (map (λ c. c.id) (earlier ++ channel_of m ∷ []))
unfolding channel_fault
channels_stay_apart round earlier m h apart =
    let place : Place = record { table = name.Channel; index = length earlier } in
    let c : Channel = channel_of m in
    let parts = or_else_none (first_of (channel_shape place m)) (first_of (channel_rules place round earlier c)) h in
    let rules = none_finds (channel_rules place round earlier c) parts.1 in
    keys_apart (λ c. c.id) earlier c apart rules.0

-- Flows.

all_between : (least most : ℕ) (items : Items) → all_items (is_number least most) items ≡ true →
    AllByRecursion (IsInRange least most) (numbers_of items)
all_between least most no_items h = tt
all_between least most (item d ds) h =
    let parts = and_parts (is_number least most d) (all_items (is_number least most) ds) h in
    (number_between least most d parts.0, all_between least most ds parts.1)

all_clusters : (n : ℕ) (items : Items) → all_items (is_number_list 1 max_unicast_sid) items ≡ true →
    list_all (λ sids. length sids == n) (lists_of items) ≡ true →
    AllByRecursion (λ sids. (length sids ≡ n) × AllByRecursion (IsInRange 1 max_unicast_sid) sids) (lists_of items)
all_clusters n no_items h k = tt
all_clusters n (item d ds) h k =
    let sids : List ℕ = numbers_of (items_of d) in
    let ranges = and_parts (is_number_list 1 max_unicast_sid d) (all_items (is_number_list 1 max_unicast_sid) ds) h in
    let lengths = and_parts (length sids == n) (list_all (λ others. length others == n) (lists_of ds)) k in (
      (eqb-true (length sids) n lengths.0, all_between 1 max_unicast_sid (items_of d) (numbers_within 1 max_unicast_sid d ranges.0)),
      all_clusters n ds ranges.1 lengths.1,
    )

all_pass : {A : Type 0} (passes : A → Bool) (xs : List A) → list_all passes xs ≡ true →
    AllByRecursion (λ x. passes x ≡ true) xs
all_pass passes [] h = tt
all_pass passes (x ∷ xs) h =
    let parts = and_parts (passes x) (list_all passes xs) h in
    (parts.0, all_pass passes xs parts.1)

fits : (t : Tables) (slots : Channel → ℕ) (o : Option Channel) → is_some o ≡ true → is_too_long t.round_ticks slots o ≡ false →
    Fits t slots o
fits t slots None some h = absurd (false≢true some)
fits t slots (Some c) some h = ltb-false (map_len t c) (slots c) h

-- the channel of an id that a channel has, and that of a flow's first id
there : (channels : List Channel) (id : ℕ) → has_channel channels id ≡ true → is_some (channel_with channels id) ≡ true
there [] id h = absurd (false≢true h)
there (c ∷ channels) id h = elim (cases_Bool (c.id == id)) [
  | inl t ↦ rw t refl
  | inr f ↦ rw f (there channels id (rw f at h))
]

first_there : (channels : List Channel) (ids : List ℕ) → AllByRecursion (λ id. has_channel channels id ≡ true) ids →
    1 ≤ length ids → is_some (option_and_then (channel_with channels) (slice_get ids 0)) ≡ true
first_there channels [] all some = absurd (omega (arith, some))
first_there channels (id ∷ ids) all some = there channels id all.0

schedule : (start interval jitter : ℕ) → start ≤ max_us → min_interval_us ≤ interval → interval ≤ max_us →
    nat_le interval jitter ≡ false → IsSchedule start interval jitter
schedule start interval jitter few least most below = record {
  start = few;
  interval = (least, most);
  jitter = leb-false interval jitter below;
}

-- without segment headers a flow has one channel
one_without : (headers : Bool) (n : ℕ) → (not headers && nat_lt 1 n) ≡ false → 1 ≤ n → headers ≡ false → n ≡ 1
one_without true n h some without = absurd (false≢true (sym without))
one_without false n h some without = omega (arith, ltb-false 1 n h, some)

-- under a maximum rate the minimum one is at most that
within_maximum : (rate min_rate : ℕ) → (nat_lt 0 rate && nat_lt rate min_rate) ≡ false → 0 < rate → min_rate ≤ rate
within_maximum rate min_rate h some = ltb-false rate min_rate (rw (lt-ltb 0 rate some) at h)

requesting_is : (m : Members) → RequestRanges m → 1 ≤ length (flow_of m).channels →
    (not (flow_of m).headers && nat_lt 1 (length (flow_of m).channels)) ≡ false →
    (nat_lt 0 (flow_of m).rate && nat_lt (flow_of m).rate (flow_of m).min_rate) ≡ false → IsRequesting (flow_of m)
requesting_is m ranges some headers rates = record {
  burst = ranges.burst;
  min_rate = within_maximum (number_at (codes "rate") m) (number_at (codes "min_rate") m) rates;
  unit = ranges.unit;
  headers = one_without (flag_at (codes "headers") m) (length (flow_of m).channels) headers some;
}

polled_is : (t : Tables) (m : Members) → FlowRanges m → is_some (first_channel t.channels (flow_of m)) ≡ true →
    min_interval_us ≤ number_at (codes "interval_us") m →
    nat_le (flow_of m).interval_us (flow_of m).jitter_us ≡ false →
    is_too_long t.round_ticks (λ c. c.request_minislots) (first_channel t.channels (flow_of m)) ≡ false →
    IsPolled t (flow_of m)
polled_is t m ranges first least jitter poll = record {
  schedule = schedule (number_at (codes "start_us") m) (number_at (codes "interval_us") m) (number_at (codes "jitter_us") m)
      ranges.start_us least ranges.interval_us jitter;
  poll = fits t (λ c. c.request_minislots) (first_channel t.channels (flow_of m)) first poll;
}

-- where the longer of two isn't too long, neither is
neither_long : (round : ℕ) (one other : Channel → ℕ) (channel : Option Channel) →
    is_too_long round (λ c. max (one c) (other c)) channel ≡ false →
    (is_too_long round one channel ≡ false) × (is_too_long round other channel ≡ false)
neither_long round one other None h = (refl, refl)
neither_long round one other (Some c) h =
    let fits = ltb-false (round / minislot_ticks c.bursts.time) (max (one c) (other c)) h in (
      le-ltb (round / minislot_ticks c.bursts.time) (one c) (omega (arith, fits)),
      le-ltb (round / minislot_ticks c.bursts.time) (other c) (omega (arith, fits)),
    )

unsolicited_is : (t : Tables) (m : Members) → FlowRanges m → GrantRanges m → 1 ≤ length (flow_of m).channels →
    is_some (first_channel t.channels (flow_of m)) ≡ true →
    nat_le (flow_of m).interval_us (flow_of m).jitter_us ≡ false →
    is_too_long t.round_ticks (grant_slots (flow_of m) UnsolicitedGrant) (first_channel t.channels (flow_of m)) ≡ false →
    IsUnsolicited t (flow_of m)
unsolicited_is t m ranges own some first jitter long = record {
  schedule = schedule (number_at (codes "start_us") m) (number_at (codes "interval_us") m) (number_at (codes "jitter_us") m)
      ranges.start_us own.interval_us ranges.interval_us jitter;
  one_channel = omega (arith, some, own.channels, length-numbers_of (items_at (codes "channels") m));
  one_cluster = omega (arith, ranges.clusters.0, own.clusters, length-lists_of (items_at (codes "clusters") m));
  grant_bytes = own.grant_bytes;
  grants = own.grants;
  grant = fits t (grant_slots (flow_of m) UnsolicitedGrant) (first_channel t.channels (flow_of m)) first long;
}

scheduled_is : (t : Tables) (m : Members) (kind : SchedulingType) → FlowRanges m → KindRanges m kind →
    1 ≤ length (flow_of m).channels → is_some (first_channel t.channels (flow_of m)) ≡ true →
    (has_intervals kind && nat_le (flow_of m).interval_us (flow_of m).jitter_us) ≡ false →
    is_too_long t.round_ticks (grant_slots (flow_of m) kind) (first_channel t.channels (flow_of m)) ≡ false →
    (makes_requests kind && (not (flow_of m).headers && nat_lt 1 (length (flow_of m).channels))) ≡ false →
    (nat_lt 0 (flow_of m).rate && nat_lt (flow_of m).rate (flow_of m).min_rate) ≡ false →
    IsScheduled t (flow_of m) kind
scheduled_is t m BestEffort ranges own some first jitter long headers rates = requesting_is m own some headers rates
scheduled_is t m NonRealTimePolling ranges own some first jitter long headers rates =
    (requesting_is m own.0 some headers rates, polled_is t m ranges first own.1 jitter long)
scheduled_is t m RealTimePolling ranges own some first jitter long headers rates =
    (requesting_is m own.0 some headers rates, polled_is t m ranges first own.1 jitter long)
scheduled_is t m ActivityDetection ranges own some first jitter long headers rates =
    let grant : Channel → ℕ = grant_slots (flow_of m) UnsolicitedGrant in
    let channel : Option Channel = first_channel t.channels (flow_of m) in (
      unsolicited_is t m ranges own some first jitter
          (neither_long t.round_ticks grant (λ c. c.request_minislots) channel long).0,
      polled_is t m ranges first own.interval_us jitter
          (neither_long t.round_ticks grant (λ c. c.request_minislots) channel long).1,
    )
scheduled_is t m UnsolicitedGrant ranges own some first jitter long headers rates =
    unsolicited_is t m ranges own some first jitter long

flow_is : (t : Tables) (earlier : List FlowTable) (m : Members) → flow_fault t.round_ticks t.channels earlier m ≡ None →
    IsFlow t (flow_of m)
unfolding flow_fault
flow_is t earlier m h =
    let place : Place = flow_place earlier in
    let f : FlowTable = flow_of m in
    let names_fault : Option ConfigFault = first_of (flow_names place t.channels earlier f) in
    let grants_fault : Option ConfigFault = first_of (flow_grants place t.round_ticks t.channels f) in
    let parts = or_else_none (first_of (flow_shape place m)) (option_or names_fault grants_fault) h in
    let rest = or_else_none names_fault grants_fault parts.1 in
    let shape = none_finds (flow_shape place m) parts.0 in
    let names = none_finds (flow_names place t.channels earlier f) rest.0 in
    let grants = none_finds (flow_grants place t.round_ticks t.channels f) rest.1 in
    let both = kind_ranges m (kind_at m) shape.1.1.0 shape.1.1.1.0 in
    let ranges : FlowRanges m = both.0 in
    let ids = length-numbers_of (items_at (codes "channels") m) in
    let lists = length-lists_of (items_at (codes "clusters") m) in
    let known = all_pass (has_channel t.channels) f.channels (not-false (list_all (has_channel t.channels) f.channels) names.0) in
    let some : 1 ≤ length f.channels = omega (arith, ids, ranges.channels.0) in
    let twice = or_parts (has_flow earlier f.id) (repeats nat_eq f.channels) names.1.0 in
    record {
      id = ranges.id;
      some_channels = (omega (arith, ids, ranges.channels.0), omega (arith, ids, ranges.channels.1));
      channels = known;
      apart = ids_apart f.channels twice.1;
      some_clusters = (omega (arith, lists, ranges.clusters.0), omega (arith, lists, ranges.clusters.1));
      sids = all_clusters (length f.channels) (items_at (codes "clusters") m) ranges.sids
          (not-false (list_all (λ sids. length sids == length f.channels) f.clusters) names.1.1.0);
      priority = ranges.priority;
      rate = ranges.rate;
      burst = ranges.burst;
      min_rate = ranges.min_rate;
      unit = ranges.unit;
      grant_bytes = ranges.grant_bytes;
      grants = ranges.grants;
      start_us = ranges.start_us;
      interval_us = ranges.interval_us;
      jitter_us = ranges.jitter_us;
      scheduled = scheduled_is t m (kind_at m) ranges both.1 some (first_there t.channels f.channels known some) grants.0
          grants.1.0 grants.1.1.0 grants.1.1.1.0;
      others = others_absent m (kind_at m) shape.1.1.1.0;
    }

flows_stay_apart : (round : ℕ) (channels : List Channel) (earlier : List FlowTable) (m : Members) →
    flow_fault round channels earlier m ≡ None →
    AreApart (map (λ f. f.id) earlier) × AreApart (flat_map sids_of earlier) →
    AreApart (map (λ f. f.id) (earlier ++ flow_of m ∷ [])) × AreApart (flat_map sids_of (earlier ++ flow_of m ∷ []))
unfolding flow_fault
flows_stay_apart round channels earlier m h apart =
    let place : Place = flow_place earlier in
    let f : FlowTable = flow_of m in
    let names_fault : Option ConfigFault = first_of (flow_names place channels earlier f) in
    let grants_fault : Option ConfigFault = first_of (flow_grants place round channels f) in
    let parts = or_else_none (first_of (flow_shape place m)) (option_or names_fault grants_fault) h in
    let rest = or_else_none names_fault grants_fault parts.1 in
    let names = none_finds (flow_names place channels earlier f) rest.0 in
    let ids = or_parts (has_flow earlier f.id) (repeats nat_eq f.channels) names.1.0 in
    let sids = or_parts (list_any (is_taken earlier) (sids_of f)) (repeats same_sid (sids_of f)) names.1.1.1.0 in
    (keys_apart (λ f. f.id) earlier f apart.0 ids.0, sids_apart earlier f apart.1 sids.0 sids.1)

-- Stations.

station_is : (t : Tables) (earlier : List Station) (m : Members) →
    station_fault t.round_ticks t.channels earlier m ≡ None → IsStation t (station_of m)
unfolding station_fault
station_is t earlier m h =
    let place : Place = record { table = name.Station; index = length earlier } in
    let s : Station = station_of m in
    let parts = or_else_none (first_of (station_shape place m)) (first_of (station_rules place t.round_ticks t.channels earlier s)) h in
    let shape = none_finds (station_shape place m) parts.0 in
    let rules = none_finds (station_rules place t.round_ticks t.channels earlier s) parts.1 in
    let ranges = station_ranges m shape.0 shape.1.0 in
    let known = not-false (has_channel t.channels s.channel) rules.0 in
    record {
      id = ranges.id;
      channel = known;
      sid = ranges.sid;
      schedule = schedule s.start_us s.interval_us s.jitter_us ranges.start_us ranges.interval_us.0 ranges.interval_us.1
          rules.1.1.0;
      maintenance = fits t (λ c. c.station_minislots) (channel_with t.channels s.channel)
          (there t.channels s.channel known) rules.1.1.1.0;
    }

stations_stay_apart : (round : ℕ) (channels : List Channel) (earlier : List Station) (m : Members) →
    station_fault round channels earlier m ≡ None →
    AreApart (map (λ s. s.id) earlier) → AreApart (map (λ s. s.id) (earlier ++ station_of m ∷ []))
unfolding station_fault
stations_stay_apart round channels earlier m h apart =
    let place : Place = record { table = name.Station; index = length earlier } in
    let s : Station = station_of m in
    let parts = or_else_none (first_of (station_shape place m)) (first_of (station_rules place round channels earlier s)) h in
    let rules = none_finds (station_rules place round channels earlier s) parts.1 in
    keys_apart (λ s. s.id) earlier s apart rules.1.0

-- All together.

pub tables_are : (doc : Members) → first_fault doc ≡ None → AreTables (tables_of doc)
unfolding first_fault
tables_are doc h =
    let channel_items : Items = items_at (codes "channel") doc in
    let flow_items : Items = items_at (codes "flow") doc in
    let station_items : Items = items_at (codes "station") doc in
    let channels = channels_fault (round_ticks_of doc) channel_items in
    let flows = flows_fault (round_ticks_of doc) (channels_of doc) flow_items in
    let stations = stations_fault (round_ticks_of doc) (channels_of doc) station_items in
    let top = or_else_none (first_of (top_checks doc)) (option_or channels (option_or flows stations)) h in
    let rest = or_else_none channels (option_or flows stations) top.1 in
    let last = or_else_none flows stations rest.1 in
    let ranges = top_is doc top.0 in
    let t : Tables = tables_of doc in
    let flows_apart = kept_in_turn flow_of (flow_fault (round_ticks_of doc) (channels_of doc))
    (λ fs. AreApart (map (λ f. f.id) fs) × AreApart (flat_map sids_of fs)) (flows_stay_apart (round_ticks_of doc) (channels_of doc))
    [] flow_items last.0 (tt, tt) in
    record {
      round_ticks = ranges.round_ticks;
      lead_ticks = ranges.lead_ticks;
      channels = all_in_turn channel_of (channel_fault (round_ticks_of doc)) (IsChannel t) (channel_is t ranges.round_ticks) []
          channel_items rest.0;
      flows = all_in_turn flow_of (flow_fault (round_ticks_of doc) (channels_of doc)) (IsFlow t) (flow_is t) [] flow_items last.0;
      stations = all_in_turn station_of (station_fault (round_ticks_of doc) (channels_of doc)) (IsStation t) (station_is t) []
          station_items last.1;
      some_channels = (
        omega (arith, ranges.channels.0, length-all_of channel_of channel_items),
        omega (arith, ranges.channels.1, length-all_of channel_of channel_items),
      );
      few_flows = omega (arith, ranges.flows, length-all_of flow_of flow_items);
      few_stations = omega (arith, ranges.stations, length-all_of station_of station_items);
      channels_apart = kept_in_turn channel_of (channel_fault (round_ticks_of doc)) (λ cs. AreApart (map (λ c. c.id) cs))
          (channels_stay_apart (round_ticks_of doc)) [] channel_items rest.0 tt;
      flows_apart = flows_apart.0;
      stations_apart = kept_in_turn station_of (station_fault (round_ticks_of doc) (channels_of doc))
          (λ ss. AreApart (map (λ s. s.id) ss)) (stations_stay_apart (round_ticks_of doc) (channels_of doc)) [] station_items
          last.1 tt;
      sids_apart = flows_apart.1;
    }

-- The lists as they are read one after another.

-- what is read of the top level fits
pub round_fits : (doc : Members) → first_of (top_checks doc) ≡ None → number_at (codes "round_ticks") doc ≤ 4294967295
round_fits doc top = let ranges = top_is doc top in omega (arith, ranges.round_ticks.1)

pub lead_fits : (doc : Members) → first_of (top_checks doc) ≡ None → number_at (codes "lead_ticks") doc ≤ 4294967295
lead_fits doc top = let ranges = top_is doc top in omega (arith, ranges.lead_ticks.1)

pub few_channels : (doc : Members) (values : List Value) → first_of (top_checks doc) ≡ None →
    items_view values ≡ items_at (codes "channel") doc → length values < 2 ^ 32
few_channels doc values top are =
    let ranges = top_is doc top in
    omega (arith, count_view values, ap count are, ranges.channels.1)

pub few_flows : (doc : Members) (values : List Value) → first_of (top_checks doc) ≡ None →
    items_view values ≡ items_at (codes "flow") doc → length values ≤ max_flows
few_flows doc values top are =
    let ranges = top_is doc top in
    omega (arith, count_view values, ap count are, ranges.flows)

pub few_stations : (doc : Members) (values : List Value) → first_of (top_checks doc) ≡ None →
    items_view values ≡ items_at (codes "station") doc → length values < 2 ^ 32
few_stations doc values top are =
    let ranges = top_is doc top in
    omega (arith, count_view values, ap count are, ranges.stations)

-- the first fault of the top level is that of the document
pub top_judged : (doc : Members) (f : ConfigFault) (Is : Tables → Type 0) → first_of (top_checks doc) ≡ Some f →
    Judged (Err f) (first_fault doc) Is
unfolding first_fault
top_judged doc f Is found =
    judged f (first_fault doc) Is (first_judged (top_checks doc) f (tt, (tt, tt)) found) (rw found refl)

-- the first fault of the channels is that of the document
pub found_in_channels : (doc : Members) (round : ℕ) (f : ConfigFault) → first_of (top_checks doc) ≡ None →
    round ≡ round_ticks_of doc → channels_fault round (items_at (codes "channel") doc) ≡ Some f → first_fault doc ≡ Some f
unfolding first_fault
found_in_channels doc round f top round_is found = rw (top, rw round_is at found) refl

-- the fault of the flows and the stations
abbrev pub rest_fault : Members → ℕ → List Channel → Option ConfigFault
rest_fault doc round channels =
    option_or (flows_fault round channels (items_at (codes "flow") doc))
    (stations_fault round channels (items_at (codes "station") doc))

pub found_in_flows : (doc : Members) (round : ℕ) (channels : List Channel) (items : Items) (f : ConfigFault) →
    items ≡ items_at (codes "flow") doc → flows_fault round channels items ≡ Some f →
    rest_fault doc round channels ≡ Some f
found_in_flows doc round channels items f are found = rw (rw are at found) refl

pub found_in_stations : (doc : Members) (round : ℕ) (channels : List Channel) (flow_items items : Items) (first : Option ConfigFault) →
    flow_items ≡ items_at (codes "flow") doc → flows_fault round channels flow_items ≡ None →
    items ≡ items_at (codes "station") doc → stations_fault round channels items ≡ first →
    rest_fault doc round channels ≡ first
found_in_stations doc round channels flow_items items first flows_are none are found =
    rw (rw flows_are at none, rw are at found) refl

-- and theirs, where the channels have none
pub found_in_rest : (doc : Members) (round : ℕ) (channels : List Channel) → first_of (top_checks doc) ≡ None →
    round ≡ round_ticks_of doc → channels_fault round (items_at (codes "channel") doc) ≡ None → channels ≡ channels_of doc →
    first_fault doc ≡ rest_fault doc round channels
unfolding first_fault
found_in_rest doc round channels top round_is no_channel channels_are =
    rw (top, rw round_is at no_channel, round_is, channels_are) refl

-- without a fault they are lawful
pub accepted : (doc : Members) (round lead : ℕ) (channels : List Channel) (flows : List FlowTable) (stations : List Station) →
    first_fault doc ≡ None → round ≡ round_ticks_of doc → lead ≡ number_at (codes "lead_ticks") doc →
    channels ≡ channels_of doc → flows ≡ flows_of doc → stations ≡ stations_of doc →
    let t : Tables = record { round_ticks = round; lead_ticks = lead; channels = channels; flows = flows; stations = stations } in
    AreTables t × (t ≡ tables_of doc)
accepted doc round lead channels flows stations none round_is lead_is channels_are flows_are stations_are =
    rw (round_is, lead_is, channels_are, flows_are, stations_are) (tables_are doc none, refl)
