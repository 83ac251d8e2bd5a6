-- A flow's table without a fault in its shape: all its values are in the ranges of its type.
use Rattle.std.proofs.Common.{◌≡◌, ℕ, ◌+◌, ◌≤◌, ◌<◌, ◌==◌, pos, negsuc, Bool, true, false, ◌||◌, List, length, get_or, drop, codes, Option, Some, None, refl, sym, ◌∙◌, arith, inl, inr}
use Rattle.std.proofs.lemmas.Bool.{and_parts, false≢true, cases_Bool, eqb-true}
use Rattle.std.proofs.lemmas.List.{drop_more}
use Rattle.std.specs.Int.{IsInRange}
use Rattle.toml.specs.Data.{Data, string, integer, float, boolean, datetime, array, table, Members, get_member}
use Rattle.toml.specs.declared.value.Value.{Value}
use Rattle.toml.specs.View.{view, items_view}
use Rattle.us_flows.specs.Ranges.{min_interval_us, max_burst, max_channel_id, max_channels_of_flow, max_clusters_of_flow, max_grant_bytes, max_grants, max_id, max_priority, max_rate, max_unicast_sid, max_unit, max_us}
use Rattle.us_flows.specs.declared.flows.SchedulingType.{SchedulingType}
use Rattle.us_flows.specs.declared.flows.SchedulingType.TheVariants.{BestEffort, NonRealTimePolling, RealTimePolling, ActivityDetection, UnsolicitedGrant}
use Rattle.us_flows.specs.Keys.{Key, all_flow_keys, flow_keys}
use Rattle.us_flows.specs.Lawful.{IsUnit, HasNoGrants, HasNoOthers, HasNoSchedule, MakesNoRequests}
use Rattle.us_flows.specs.Documents.{number_of, number_at, flag_of, flag_at, items_of, items_at, read_or}
use Rattle.us_flows.specs.Reading.{kind_at, flow_of}
use Rattle.us_flows.specs.Shapes.{is_number, is_unit, is_number_list, count, all_items, allows, lacks, strays}
use Rattle.us_flows.proofs.ShapeLemmas.{found_allowed, value_kept, number_in_range, number_between, optional_in_range}
use Rattle.us_flows.proofs.ChannelLemmas.{list_in_range}

-- the next item of what is left of a list
next_item : (passes : Data → Bool) (values : List Value) (i : ℕ) (value d : Value) → i < length values → value ≡
    get_or values i d →
    all_items passes (items_view (drop i values)) ≡ true →
    (passes (view value) ≡ true) × (all_items passes (items_view (drop (i + 1) values)) ≡ true)
next_item passes values i value d within is h =
    let more = rw (drop_more values i d within, ← is) at h in
    and_parts (passes (view value)) (all_items passes (items_view (drop (i + 1) values))) more

pub first_number : (least most : ℕ) (values : List Value) (i : ℕ) (value d : Value) → i < length values → value ≡
    get_or values i d →
    all_items (is_number least most) (items_view (drop i values)) ≡ true → number_of (view value) ≤ most
first_number least most values i value d within is h =
    (number_between least most (view value) (next_item (is_number least most) values i value d within is h).0).1

pub first_sid : (values : List Value) (i : ℕ) (value d : Value) → i < length values → value ≡ get_or values i d →
    all_items (is_number 1 max_unicast_sid) (items_view (drop i values)) ≡ true → number_of (view value) ≤ 65535
first_sid values i value d within is h = omega (arith, first_number 1 max_unicast_sid values i value d within is h)

pub numbers_within : (least most : ℕ) (d : Data) → is_number_list least most d ≡ true →
    all_items (is_number least most) (items_of d) ≡ true
numbers_within least most (array ds) h = h
numbers_within least most (integer z) h = absurd (false≢true h)
numbers_within least most (string s) h = absurd (false≢true h)
numbers_within least most (float x) h = absurd (false≢true h)
numbers_within least most (boolean b) h = absurd (false≢true h)
numbers_within least most (datetime x) h = absurd (false≢true h)
numbers_within least most (table ms) h = absurd (false≢true h)

unit_number : (n : ℕ) → (n == 1 || (n == 2 || (n == 4 || (n == 8 || n == 16)))) ≡ true → IsUnit n
unit_number n h = elim (cases_Bool (n == 1)) [
  | inl t ↦ inl (eqb-true n 1 t)
  | inr f ↦ elim (cases_Bool (n == 2)) [
    | inl t ↦ inr (inl (eqb-true n 2 t))
    | inr g ↦ elim (cases_Bool (n == 4)) [
      | inl t ↦ inr (inr (inl (eqb-true n 4 t)))
      | inr k ↦ elim (cases_Bool (n == 8)) [
        | inl t ↦ inr (inr (inr (inl (eqb-true n 8 t))))
        | inr l ↦ inr (inr (inr (inr (eqb-true n 16 (rw (f, g, k, l) at h)))))
      ]
    ]
  ]
]

few_bytes : (n : ℕ) → IsUnit n → n ≤ max_unit
few_bytes n (inl one) = omega (arith, one)
few_bytes n (inr (inl two)) = omega (arith, two)
few_bytes n (inr (inr (inl four))) = omega (arith, four)
few_bytes n (inr (inr (inr (inl eight)))) = omega (arith, eight)
few_bytes n (inr (inr (inr (inr sixteen)))) = omega (arith, sixteen)

unit_between : (d : Data) → is_unit d ≡ true → IsUnit (number_of d)
unit_between (integer (pos n)) h = unit_number n h
unit_between (integer (negsuc n)) h = absurd (false≢true h)
unit_between (string s) h = absurd (false≢true h)
unit_between (float x) h = absurd (false≢true h)
unit_between (boolean b) h = absurd (false≢true h)
unit_between (datetime x) h = absurd (false≢true h)
unit_between (array ds) h = absurd (false≢true h)
unit_between (table ms) h = absurd (false≢true h)

-- the keys of each type; those of both types that are polled are the same, and those of both with unsolicited grants
abbrev best_effort_keys : List Key
best_effort_keys = flow_keys BestEffort

abbrev polling_keys : List Key
polling_keys = flow_keys RealTimePolling

abbrev unsolicited_keys : List Key
unsolicited_keys = flow_keys UnsolicitedGrant

-- What a type has no key for is 0, or false.
absent : (keys : List Key) (t : Members) (k : List ℕ) → strays keys t ≡ false → ((d : Data) → allows keys k d ≡ false) →
    number_at k t ≡ 0
absent keys t k ranged unlisted = none (get_member k t) refl
  where
    none : (found : Option Data) → get_member k t ≡ found → read_or 0 number_of found ≡ 0
    none None is = refl
    none (Some d) is = absurd (false≢true (sym (unlisted d) ∙ found_allowed keys k d t ranged is))

absent_flag : (keys : List Key) (t : Members) (k : List ℕ) → strays keys t ≡ false →
    ((d : Data) → allows keys k d ≡ false) → flag_at k t ≡ false
absent_flag keys t k ranged unlisted = none (get_member k t) refl
  where
    none : (found : Option Data) → get_member k t ≡ found → read_or false flag_of found ≡ false
    none None is = refl
    none (Some d) is = absurd (false≢true (sym (unlisted d) ∙ found_allowed keys k d t ranged is))

best_effort_others : (t : Members) → strays best_effort_keys t ≡ false →
    HasNoSchedule (flow_of t) × HasNoGrants (flow_of t)
unfolding all_flow_keys
best_effort_others t r = (
  record {
    start_us = absent best_effort_keys t (codes "start_us") r (λ d. refl);
    interval_us = absent best_effort_keys t (codes "interval_us") r (λ d. refl);
    jitter_us = absent best_effort_keys t (codes "jitter_us") r (λ d. refl);
  },
  record {
    grant_bytes = absent best_effort_keys t (codes "grant_bytes") r (λ d. refl);
    grants = absent best_effort_keys t (codes "grants_per_interval") r (λ d. refl);
  },
)

polling_others : (t : Members) → strays polling_keys t ≡ false → HasNoGrants (flow_of t)
unfolding all_flow_keys
polling_others t r = record {
  grant_bytes = absent polling_keys t (codes "grant_bytes") r (λ d. refl);
  grants = absent polling_keys t (codes "grants_per_interval") r (λ d. refl);
}

unsolicited_others : (t : Members) → strays unsolicited_keys t ≡ false → MakesNoRequests (flow_of t)
unfolding all_flow_keys
unsolicited_others t r = record {
  priority = absent unsolicited_keys t (codes "priority") r (λ d. refl);
  rate = absent unsolicited_keys t (codes "rate") r (λ d. refl);
  burst = absent unsolicited_keys t (codes "burst") r (λ d. refl);
  min_rate = absent unsolicited_keys t (codes "min_rate") r (λ d. refl);
  unit = absent unsolicited_keys t (codes "unit") r (λ d. refl);
  headers = absent_flag unsolicited_keys t (codes "headers") r (λ d. refl);
}

pub others_absent : (t : Members) (kind : SchedulingType) → strays (flow_keys kind) t ≡ false →
    HasNoOthers (flow_of t) kind
unfolding all_flow_keys
others_absent t BestEffort r = best_effort_others t r
others_absent t NonRealTimePolling r = polling_others t r
others_absent t RealTimePolling r = polling_others t r
others_absent t ActivityDetection r = unsolicited_others t r
others_absent t UnsolicitedGrant r = unsolicited_others t r

-- The ranges that all types have.

pub record FlowRanges (t : Members) : Type 0 where
  pub id : IsInRange 1 max_id (number_at (codes "id") t)
  pub channels : IsInRange 1 max_channels_of_flow (count (items_at (codes "channels") t))
  pub channel_ids : all_items (is_number 1 max_channel_id) (items_at (codes "channels") t) ≡ true
  pub clusters : IsInRange 1 max_clusters_of_flow (count (items_at (codes "clusters") t))
  pub sids : all_items (is_number_list 1 max_unicast_sid) (items_at (codes "clusters") t) ≡ true
  pub priority : number_at (codes "priority") t ≤ max_priority
  pub rate : number_at (codes "rate") t ≤ max_rate
  pub burst : number_at (codes "burst") t ≤ max_burst
  pub min_rate : number_at (codes "min_rate") t ≤ max_rate
  pub unit : number_at (codes "unit") t ≤ max_unit
  pub start_us : number_at (codes "start_us") t ≤ max_us
  pub interval_us : number_at (codes "interval_us") t ≤ max_us
  pub jitter_us : number_at (codes "jitter_us") t ≤ max_us
  pub grant_bytes : number_at (codes "grant_bytes") t ≤ max_grant_bytes
  pub grants : number_at (codes "grants_per_interval") t ≤ max_grants

-- and the least values of those that a type has keys for
pub record RequestRanges (t : Members) : Type 0 where
  pub burst : 1 ≤ number_at (codes "burst") t
  pub unit : IsUnit (number_at (codes "unit") t)

pub record GrantRanges (t : Members) : Type 0 where
  pub channels : count (items_at (codes "channels") t) ≤ 1
  pub clusters : count (items_at (codes "clusters") t) ≤ 1
  pub interval_us : min_interval_us ≤ number_at (codes "interval_us") t
  pub grant_bytes : 1 ≤ number_at (codes "grant_bytes") t
  pub grants : 1 ≤ number_at (codes "grants_per_interval") t

best_effort_ranges : (t : Members) → lacks best_effort_keys t ≡ false → strays best_effort_keys t ≡ false →
    FlowRanges t × RequestRanges t
unfolding all_flow_keys
best_effort_ranges t w r =
    let none = best_effort_others t r in
    let channels = list_in_range best_effort_keys t (codes "channels") 1 max_channels_of_flow (is_number 1 max_channel_id) w r refl (λ d. refl) in
    let clusters = list_in_range best_effort_keys t (codes "clusters") 1 max_clusters_of_flow (is_number_list 1 max_unicast_sid) w r refl (λ d. refl) in
    let unit = value_kept best_effort_keys (codes "unit") t w r refl in
    let units : IsUnit (number_at (codes "unit") t) = rw unit.1 (unit_between unit.0 unit.2) in
    let burst = number_in_range best_effort_keys t (codes "burst") 1 max_burst w r refl (λ d. refl) in (
      record {
        id = number_in_range best_effort_keys t (codes "id") 1 max_id w r refl (λ d. refl);
        channels = channels.0;
        channel_ids = channels.1;
        clusters = clusters.0;
        sids = clusters.1;
        priority = (number_in_range best_effort_keys t (codes "priority") 0 max_priority w r refl (λ d. refl)).1;
        rate = (number_in_range best_effort_keys t (codes "rate") 0 max_rate w r refl (λ d. refl)).1;
        burst = burst.1;
        min_rate = optional_in_range best_effort_keys t (codes "min_rate") max_rate r (λ d. refl);
        unit = few_bytes (number_at (codes "unit") t) units;
        start_us = omega (arith, none.0.start_us);
        interval_us = omega (arith, none.0.interval_us);
        jitter_us = omega (arith, none.0.jitter_us);
        grant_bytes = omega (arith, none.1.grant_bytes);
        grants = omega (arith, none.1.grants);
      },
      record { burst = burst.0; unit = units },
    )

polling_ranges : (t : Members) → lacks polling_keys t ≡ false → strays polling_keys t ≡ false →
    FlowRanges t × RequestRanges t × (min_interval_us ≤ number_at (codes "interval_us") t)
unfolding all_flow_keys
polling_ranges t w r =
    let none = polling_others t r in
    let channels = list_in_range polling_keys t (codes "channels") 1 max_channels_of_flow (is_number 1 max_channel_id) w r refl (λ d. refl) in
    let clusters = list_in_range polling_keys t (codes "clusters") 1 max_clusters_of_flow (is_number_list 1 max_unicast_sid) w r refl (λ d. refl) in
    let unit = value_kept polling_keys (codes "unit") t w r refl in
    let units : IsUnit (number_at (codes "unit") t) = rw unit.1 (unit_between unit.0 unit.2) in
    let burst = number_in_range polling_keys t (codes "burst") 1 max_burst w r refl (λ d. refl) in
    let interval = number_in_range polling_keys t (codes "interval_us") min_interval_us max_us w r refl (λ d. refl) in
    let ranges : FlowRanges t = record {
      id = number_in_range polling_keys t (codes "id") 1 max_id w r refl (λ d. refl);
      channels = channels.0;
      channel_ids = channels.1;
      clusters = clusters.0;
      sids = clusters.1;
      priority = (number_in_range polling_keys t (codes "priority") 0 max_priority w r refl (λ d. refl)).1;
      rate = (number_in_range polling_keys t (codes "rate") 0 max_rate w r refl (λ d. refl)).1;
      burst = burst.1;
      min_rate = optional_in_range polling_keys t (codes "min_rate") max_rate r (λ d. refl);
      unit = few_bytes (number_at (codes "unit") t) units;
      start_us = (number_in_range polling_keys t (codes "start_us") 0 max_us w r refl (λ d. refl)).1;
      interval_us = interval.1;
      jitter_us = (number_in_range polling_keys t (codes "jitter_us") 0 max_us w r refl (λ d. refl)).1;
      grant_bytes = omega (arith, none.grant_bytes);
      grants = omega (arith, none.grants);
    } in
    let requests : RequestRanges t = record { burst = burst.0; unit = units } in
    (ranges, requests, interval.0)

unsolicited_ranges : (t : Members) → lacks unsolicited_keys t ≡ false → strays unsolicited_keys t ≡ false →
    FlowRanges t × GrantRanges t
unfolding all_flow_keys
unsolicited_ranges t w r =
    let none = unsolicited_others t r in
    let channels = list_in_range unsolicited_keys t (codes "channels") 1 1 (is_number 1 max_channel_id) w r refl (λ d. refl) in
    let clusters = list_in_range unsolicited_keys t (codes "clusters") 1 1 (is_number_list 1 max_unicast_sid) w r refl (λ d. refl) in
    let interval = number_in_range unsolicited_keys t (codes "interval_us") min_interval_us max_us w r refl (λ d. refl) in
    let bytes = number_in_range unsolicited_keys t (codes "grant_bytes") 1 max_grant_bytes w r refl (λ d. refl) in
    let grants = number_in_range unsolicited_keys t (codes "grants_per_interval") 1 max_grants w r refl (λ d. refl) in (
      record {
        id = number_in_range unsolicited_keys t (codes "id") 1 max_id w r refl (λ d. refl);
        channels = (channels.0.0, omega (arith, channels.0.1));
        channel_ids = channels.1;
        clusters = (clusters.0.0, omega (arith, clusters.0.1));
        sids = clusters.1;
        priority = omega (arith, none.priority);
        rate = omega (arith, none.rate);
        burst = omega (arith, none.burst);
        min_rate = omega (arith, none.min_rate);
        unit = omega (arith, none.unit);
        start_us = (number_in_range unsolicited_keys t (codes "start_us") 0 max_us w r refl (λ d. refl)).1;
        interval_us = interval.1;
        jitter_us = (number_in_range unsolicited_keys t (codes "jitter_us") 0 max_us w r refl (λ d. refl)).1;
        grant_bytes = bytes.1;
        grants = grants.1;
      },
      record {
        channels = channels.0.1;
        clusters = clusters.0.1;
        interval_us = interval.0;
        grant_bytes = bytes.0;
        grants = grants.0;
      },
    )

-- what a type asks of the values of its keys
abbrev pub KindRanges : Members → SchedulingType → Type 0
KindRanges t BestEffort = RequestRanges t
KindRanges t NonRealTimePolling = RequestRanges t × (min_interval_us ≤ number_at (codes "interval_us") t)
KindRanges t RealTimePolling = RequestRanges t × (min_interval_us ≤ number_at (codes "interval_us") t)
KindRanges t ActivityDetection = GrantRanges t
KindRanges t UnsolicitedGrant = GrantRanges t

pub kind_ranges : (t : Members) (kind : SchedulingType) → lacks (flow_keys kind) t ≡ false → strays (flow_keys kind) t ≡
    false → FlowRanges t × KindRanges t kind
unfolding all_flow_keys
kind_ranges t BestEffort w r = best_effort_ranges t w r
kind_ranges t NonRealTimePolling w r = let all = polling_ranges t w r in (all.0, (all.1, all.2))
kind_ranges t RealTimePolling w r = let all = polling_ranges t w r in (all.0, (all.1, all.2))
kind_ranges t ActivityDetection w r = unsolicited_ranges t w r
kind_ranges t UnsolicitedGrant w r = unsolicited_ranges t w r

pub flow_ranges : (t : Members) → lacks (flow_keys (kind_at t)) t ≡ false → strays (flow_keys (kind_at t)) t ≡ false →
    FlowRanges t
flow_ranges t w r = (kind_ranges t (kind_at t) w r).0

-- so that they fit the types of their fields
pub record FlowWidths (t : Members) : Type 0 where
  pub id : number_at (codes "id") t ≤ 65535
  pub priority : number_at (codes "priority") t ≤ 255
  pub rate : number_at (codes "rate") t ≤ 4294967295
  pub burst : number_at (codes "burst") t ≤ 4294967295
  pub min_rate : number_at (codes "min_rate") t ≤ 4294967295
  pub unit : number_at (codes "unit") t ≤ 255
  pub start_us : number_at (codes "start_us") t ≤ 4294967295
  pub interval_us : number_at (codes "interval_us") t ≤ 4294967295
  pub jitter_us : number_at (codes "jitter_us") t ≤ 4294967295
  pub grant_bytes : number_at (codes "grant_bytes") t ≤ 65535
  pub grants : number_at (codes "grants_per_interval") t ≤ 255

widths : (t : Members) → FlowRanges t → FlowWidths t
widths t ranges = record {
  id = ranges.id.1;
  priority = omega (arith, ranges.priority);
  rate = omega (arith, ranges.rate);
  burst = omega (arith, ranges.burst);
  min_rate = omega (arith, ranges.min_rate);
  unit = omega (arith, ranges.unit);
  start_us = omega (arith, ranges.start_us);
  interval_us = omega (arith, ranges.interval_us);
  jitter_us = omega (arith, ranges.jitter_us);
  grant_bytes = ranges.grant_bytes;
  grants = omega (arith, ranges.grants);
}

pub flow_widths : (t : Members) → lacks (flow_keys (kind_at t)) t ≡ false → strays (flow_keys (kind_at t)) t ≡ false →
    FlowWidths t
flow_widths t w r = widths t (flow_ranges t w r)
