-- The entries of lawful tables: each is of one flow or one station and stands on its channel alone, and each is lawful.
use Rattle.std.proofs.Common.{◌≡◌, ◌≢◌, ℕ, zero, suc, ◌+◌, ◌<◌, ◌≤◌, ◌⊎◌, ◌==◌, Bool, true, false, List, [], ◌∷◌, ◌++◌, length, map, flat_map, take, filter_map, get_or, Option, Some, None, IfSome, slice_get, slice_index, unwrap_or, option_and_then, if◌then◌else◌, refl, sym, ap, ap₂, ◌∙◌, inl, inr, subst, arith}
use Rattle.std.specs.List.{AllByRecursion, Contains, cons_option}
use Rattle.std.proofs.lemmas.Bool.{eqb-true}
use Rattle.std.proofs.lemmas.List.Elements.{All-contains, All-from_recursion, Contains-append_cases}
use Rattle.std.proofs.lemmas.List.Sorted.{Contains-permutation, IsPermutation-sym}
use Rattle.us_slots.specs.UsageCodes as codes
use Rattle.us_slots.specs.Bursts.{burst_cost}
use Rattle.us_slots.proofs.CostLemmas.{burst_cost-some}
use Rattle.us_flows.specs.Ranges.{max_unicast_sid}
use Rattle.us_flows.specs.Tables.{Tables, FlowTable, map_len, channel_with, first_channel}
use Rattle.us_flows.specs.Lawful.{AreApart, AreTables, Fits, IsChannel, IsFlow, IsScheduled, IsSchedule, IsStation}
use Rattle.us_flows.specs.declared.channels.Channel.{Channel}
use Rattle.us_flows.specs.declared.stations.Station.{Station}
use Rattle.us_flows.specs.declared.flows.SchedulingType.{SchedulingType}
use Rattle.us_flows.specs.declared.flows.SchedulingType.TheVariants.{BestEffort, NonRealTimePolling, RealTimePolling, ActivityDetection, UnsolicitedGrant}
use Rattle.us_flows.specs.Clusters.{Silent, Active, tells_activity, words_before, words_in, words_of}
use Rattle.us_flows.proofs.KeyLaws.{item_of_key, channel_found}
use Rattle.us_flows.proofs.WordLaws.{activity_has_words}
use Rattle.std.proofs.lemmas.List.{length-append}
use Rattle.std.specs.Int.{IsInRange}
use Rattle.us_holes.specs.Boards.{IsOwner}
use Rattle.us_calendar.specs.declared.kinds.Kind.{Kind}
use Rattle.us_calendar.specs.declared.kinds.Kind.TheVariants as kinds
use Rattle.us_calendar.specs.declared.silences.Silence.{Silence}
use Rattle.us_calendar.specs.Entries.{Entry, WordedFlow, with_words, quarters, first_sid, grant_cost, rank_of, entries, scheduled, entry_of_flow, entry_of_station}
use Rattle.us_calendar.specs.Laws.{EntriesAreApart, EntriesAreLawful, EntriesHaveWords, IsLawfulEntry}
use Rattle.us_calendar.proofs.OrderLemmas.{flow_made, station_made, flows_first, stations_then, worded_apart}
use Rattle.us_calendar.proofs.SortedLemmas.{entries_moved, entries_all}

-- of which flow or station an entry is

found_at : {X : Type 0} (xs : List X) (i : ℕ) (x : X) → i < length xs → get_or xs i x ≡ x → slice_get xs i ≡ Some x
found_at [] i x inside is = absurd (omega (arith, inside))
found_at (y ∷ xs) zero x inside is = ap Some is
found_at (y ∷ xs) (suc i) x inside is = found_at xs i x (omega (arith, inside)) is

module _ {X : Type 0} (h : X → Option Entry) where
  abbrev IsMadeOf : List X → Entry → Type 0
  IsMadeOf xs e = (i : ℕ) × (x : X) × (slice_get xs i ≡ Some x) × (h x ≡ Some e)

  one_more : (y : X) (xs : List X) (e : Entry) → IsMadeOf xs e → IsMadeOf (y ∷ xs) e
  one_more y xs e of = (suc of.0, of.1, of.2, of.3)

  made_cons : (o : Option Entry) (y : X) (xs : List X) (e : Entry) → h y ≡ o →
      ((i : ℕ) → slice_get (filter_map h xs) i ≡ Some e → IsMadeOf xs e) → (i : ℕ) →
      slice_get (cons_option o (filter_map h xs)) i ≡ Some e → IsMadeOf (y ∷ xs) e
  made_cons None y xs e is rest i at = one_more y xs e (rest i at)
  made_cons (Some d) y xs e is rest zero at = (zero, y, refl, is ∙ at)
  made_cons (Some d) y xs e is rest (suc i) at = one_more y xs e (rest i at)

  made_at : (xs : List X) (e : Entry) (i : ℕ) → slice_get (filter_map h xs) i ≡ Some e → IsMadeOf xs e
  made_at [] e i at = let never : None ≡ Some e = at in cc
  made_at (y ∷ xs) e i at = made_cons (h y) y xs e refl (made_at xs e) i at

  made_of : (xs : List X) (e : Entry) → Contains (filter_map h xs) e → IsMadeOf xs e
  made_of xs e has = made_at xs e has.0 (found_at (filter_map h xs) has.0 e has.1 has.2)

abbrev IsOf : Tables → Channel → Entry → Type 0
IsOf t c e = IsMadeOf (entry_of_flow c) (with_words 0 t.flows) e ⊎ IsMadeOf (entry_of_station c) t.stations e

all_of : (t : Tables) → AreTables t → (c : Channel) (e : Entry) → Contains (entries t c) e → IsOf t c e
all_of t lawful c e has =
    let flows : List Entry = flows_first t c lawful in
    let stations : List Entry = stations_then t c lawful in
    let listed = Contains-permutation (entries t c) (flows ++ stations) e
    (IsPermutation-sym (flows ++ stations) (entries t c) (entries_moved t c lawful)) has in
    elim (Contains-append_cases flows stations e listed) [
      | inl own ↦ inl (made_of (entry_of_flow c) (with_words 0 t.flows) e own)
      | inr own ↦ inr (made_of (entry_of_station c) t.stations e own)
    ]

-- on which channel

if_some : (b : Bool) (o : Option Entry) (e : Entry) → (if b then o else None) ≡ Some e → b ≡ true
if_some true o e is = refl
if_some false o e is = let never : None ≡ Some e = is in absurd cc

flow_channel : (c : Channel) (f : WordedFlow) (e : Entry) → entry_of_flow c f ≡ Some e →
    slice_index f.flow.channels 0 ≡ c.id
flow_channel c f e is =
    eqb-true (slice_index f.flow.channels 0) c.id
    (if_some (slice_index f.flow.channels 0 == c.id) (scheduled c f.word f.flow f.flow.kind) e is)

station_channel : (c : Channel) (s : Station) (e : Entry) → entry_of_station c s ≡ Some e → s.channel ≡ c.id
station_channel c s e is = eqb-true s.channel c.id (if_some (s.channel == c.id) (Some (record {
  kind = kinds.Station;
  id = s.id;
  owner = record { sid = s.sid; iuc = codes.station_maintenance };
  slots = c.station_minislots;
  start = quarters s.start_us;
  interval = quarters s.interval_us;
  jitter = quarters s.jitter_us;
  grants = 1;
  silence = None;
})) e is)

-- flows, or stations, with entries that have their ids and stand on their channels
module _ {X : Type 0} (id channel : X → ℕ) (h : Channel → X → Option Entry)
    (own : (c : Channel) (x : X) (e : Entry) → h c x ≡ Some e → (e.id ≡ id x) × (channel x ≡ c.id)) where
  one_made : (t : Tables) → AreTables t → (xs : List X) → AreApart (map id xs) → (c d : Channel) →
      Contains t.channels c → Contains t.channels d → (e f : Entry) → IsMadeOf (h c) xs e → IsMadeOf (h d) xs f →
      e.id ≡ f.id → (c ≡ d) × (e ≡ f)
  one_made t lawful xs apart c d has_c has_d e f one other ids =
      let first = own c one.1 e one.3 in
      let second = own d other.1 f other.3 in
      let same : one.1 ≡ other.1 = item_of_key id xs one.0 other.0 one.1 other.1 apart one.2 other.2
      (sym first.0 ∙ ids ∙ second.0) in
      let channels : c ≡ d = item_of_key (λ c. c.id) t.channels has_c.0 has_d.0 c d lawful.channels_apart
      (found_at t.channels has_c.0 c has_c.1 has_c.2) (found_at t.channels has_d.0 d has_d.1 has_d.2)
      (sym first.1 ∙ ap channel same ∙ second.1) in
      let made : Some e ≡ Some f = sym one.3 ∙ ap₂ h channels same ∙ other.3 in
      let entries : e ≡ f = cc in
      (channels, entries)

of_flow : (c : Channel) (f : WordedFlow) (e : Entry) → entry_of_flow c f ≡ Some e →
    (e.id ≡ f.flow.id) × (rank_of e.kind ≤ 3)
of_flow c f e is = subst (λ o. IfSome o (λ e. (e.id ≡ f.flow.id) × (rank_of e.kind ≤ 3))) is (flow_made c f)

of_station : (c : Channel) (s : Station) (e : Entry) → entry_of_station c s ≡ Some e →
    (e.id ≡ s.id) × (rank_of e.kind ≡ 4)
of_station c s e is = subst (λ o. IfSome o (λ e. (e.id ≡ s.id) × (rank_of e.kind ≡ 4))) is (station_made c s)

other_kinds : (t : Tables) (c d : Channel) (e f : Entry) → IsMadeOf (entry_of_flow c) (with_words 0 t.flows) e →
    IsMadeOf (entry_of_station d) t.stations f → e.kind ≡ f.kind → ⊥
other_kinds t c d e f one other same =
    let flow = of_flow c one.1 e one.3 in
    let station = of_station d other.1 f other.3 in
    let ranks : rank_of e.kind ≡ rank_of f.kind = ap rank_of same in
    omega (arith, flow.1, station.1, ranks)

pub entries_are_apart : EntriesAreApart
entries_are_apart t lawful c d has_c has_d e f of_c of_d same ids = elim (all_of t lawful c e of_c) [
  | inl flow ↦ elim (all_of t lawful d f of_d) [
    | inl other ↦
        one_made (λ (f : WordedFlow). f.flow.id) (λ (f : WordedFlow). slice_index f.flow.channels 0) entry_of_flow
        (λ c f e is. ((of_flow c f e is).0, flow_channel c f e is)) t lawful (with_words 0 t.flows)
        (worded_apart t c lawful) c d has_c has_d e f flow other ids
    | inr other ↦ absurd (other_kinds t c d e f flow other same)
  ]
  | inr station ↦ elim (all_of t lawful d f of_d) [
    | inl other ↦ absurd (other_kinds t d c f e other station (sym same))
    | inr other ↦
        one_made (λ s. s.id) (λ s. s.channel) entry_of_station
        (λ c s e is. ((of_station c s e is).0, station_channel c s e is)) t lawful t.stations lawful.stations_apart c d
        has_c has_d e f station other ids
  ]
]

-- lawful entries

first_id : (ids : List ℕ) → 1 ≤ length ids → slice_get ids 0 ≡ Some (slice_index ids 0)
first_id [] some = absurd (omega (arith, some))
first_id (id ∷ ids) some = refl

first_sid-most : (clusters : List (List ℕ)) (channels : ℕ) → 1 ≤ length clusters → 1 ≤ channels →
    AllByRecursion (λ sids. (length sids ≡ channels) × AllByRecursion (IsInRange 1 max_unicast_sid) sids) clusters →
    slice_index (unwrap_or (slice_get clusters 0) []) 0 ≤ max_unicast_sid
first_sid-most [] channels some long all = absurd (omega (arith, some))
first_sid-most ([] ∷ clusters) channels some long all = absurd (omega (arith, all.0.0, long))
first_sid-most ((sid ∷ sids) ∷ clusters) channels some long all = all.0.1.0.1

lawful_owner : (sid iuc : ℕ) → sid ≤ max_unicast_sid → iuc < 16 → iuc ≢ codes.null →
    IsOwner (record { sid = sid; iuc = iuc })
lawful_owner sid iuc few usage other = record { sid = omega (arith, few); usage = usage; other = other }

-- an entry of such times
lawful_entry : (t : Tables) (c : Channel) (kind : Kind) (id sid iuc slots start interval jitter grants : ℕ)
    (silence : Option Silence) → IsSchedule start interval jitter → sid ≤ max_unicast_sid → iuc < 16 →
    iuc ≢ codes.null → 1 ≤ slots → slots ≤ map_len t c → 1 ≤ grants → grants ≤ 127 →
    IfSome silence (λ s. (1 ≤ s.slots) × (s.slots ≤ map_len t c)) → IsLawfulEntry t c (record {
      kind = kind;
      id = id;
      owner = record { sid = sid; iuc = iuc };
      slots = slots;
      start = quarters start;
      interval = quarters interval;
      jitter = quarters jitter;
      grants = grants;
      silence = silence;
    })
lawful_entry t c kind id sid iuc slots start interval jitter grants None times few usage other some room one most poll =
    record {
      entry = record {
        owner = lawful_owner sid iuc few usage other;
        slots = some;
        poll = some;
        start = omega (arith, times.start);
        interval = omega (arith, times.interval);
        jitter = omega (arith, times.jitter);
        grants = one;
        few_grants = most;
      };
      room = room;
      poll_room = room;
    }
lawful_entry t c kind id sid iuc slots start interval jitter grants (Some s) times few usage other some room one most poll =
    record {
      entry = record {
        owner = lawful_owner sid iuc few usage other;
        slots = some;
        poll = poll.0;
        start = omega (arith, times.start);
        interval = omega (arith, times.interval);
        jitter = omega (arith, times.jitter);
        grants = one;
        few_grants = most;
      };
      room = room;
      poll_room = poll.1;
    }

module _ (t : Tables) (lawful : AreTables t) (c : Channel) (has : Contains t.channels c) where
  channel_is : channel_with t.channels c.id ≡ Some c
  channel_is = channel_found t has.0 c lawful (found_at t.channels has.0 c has.1 has.2)

  own_channel : IsChannel t c
  own_channel = All-contains (IsChannel t) t.channels c (All-from_recursion (IsChannel t) t.channels lawful.channels) has

  flow_lawful : (word : ℕ) (f : FlowTable) → IsFlow t f →
      IfSome (entry_of_flow c (record { word = word; flow = f })) (IsLawfulEntry t c)
  flow_lawful word f is =
      by (slice_index f.channels 0 == c.id) (eqb-true (slice_index f.channels 0) c.id)
    where
      sid : first_sid f ≤ max_unicast_sid
      sid = first_sid-most f.clusters (length f.channels) is.some_clusters.0 is.some_channels.0 is.sids

      first : slice_index f.channels 0 ≡ c.id → first_channel t.channels f ≡ Some c
      first same =
          ap (option_and_then (channel_with t.channels)) (first_id f.channels is.some_channels.0 ∙ ap Some same) ∙
          channel_is

      of_kind : slice_index f.channels 0 ≡ c.id → (k : SchedulingType) → IsScheduled t f k →
          IfSome (scheduled c word f k) (IsLawfulEntry t c)
      of_kind same BestEffort of = tt
      of_kind same NonRealTimePolling of =
          lawful_entry t c kinds.NonRealTimePoll f.id (first_sid f) codes.request c.request_minislots f.start_us
          f.interval_us f.jitter_us 1 None of.1.schedule sid (omega arith) (λ e. omega (arith, e)) own_channel.request_minislots.0
          (subst (Fits t (λ channel. channel.request_minislots)) (first same) of.1.poll) (omega arith) (omega arith) tt
      of_kind same RealTimePolling of =
          lawful_entry t c kinds.RealTimePoll f.id (first_sid f) codes.request c.request_minislots f.start_us
          f.interval_us f.jitter_us 1 None of.1.schedule sid (omega arith) (λ e. omega (arith, e)) own_channel.request_minislots.0
          (subst (Fits t (λ channel. channel.request_minislots)) (first same) of.1.poll) (omega arith) (omega arith) tt
      of_kind same ActivityDetection of =
          lawful_entry t c kinds.Activity f.id (first_sid f) codes.unsolicited_grant (grant_cost c f) f.start_us
          f.interval_us f.jitter_us f.grants_per_interval
          (Some (record { word = word; slots = c.request_minislots })) of.0.schedule sid (omega arith)
          (λ e. omega (arith, e))
          (burst_cost-some c.bursts.time c.bursts.unsolicited f.grant_bytes own_channel.bursts.unsolicited of.0.grant_bytes)
          (subst (Fits t (λ channel. burst_cost channel.bursts.time channel.bursts.unsolicited f.grant_bytes)) (first same)
          of.0.grant) of.0.grants is.grants (
            own_channel.request_minislots.0,
            subst (Fits t (λ channel. channel.request_minislots)) (first same) of.1.poll,
          )
      of_kind same UnsolicitedGrant of =
          lawful_entry t c kinds.Unsolicited f.id (first_sid f) codes.unsolicited_grant
          (burst_cost c.bursts.time c.bursts.unsolicited f.grant_bytes) f.start_us f.interval_us f.jitter_us
          f.grants_per_interval None of.schedule sid (omega arith) (λ e. omega (arith, e))
          (burst_cost-some c.bursts.time c.bursts.unsolicited f.grant_bytes own_channel.bursts.unsolicited of.grant_bytes)
          (subst (Fits t (λ channel. burst_cost channel.bursts.time channel.bursts.unsolicited f.grant_bytes)) (first same)
          of.grant) of.grants is.grants tt

      by : (b : Bool) → (b ≡ true → slice_index f.channels 0 ≡ c.id) →
          IfSome (if b then scheduled c word f f.kind else None) (IsLawfulEntry t c)
      by true same = of_kind (same refl) f.kind is.scheduled
      by false same = tt

  station_lawful : (s : Station) → IsStation t s → IfSome (entry_of_station c s) (IsLawfulEntry t c)
  station_lawful s is = by (s.channel == c.id) (eqb-true s.channel c.id)
    where
      by : (b : Bool) → (b ≡ true → s.channel ≡ c.id) → IfSome {T = Entry} (if b then Some (record {
        kind = kinds.Station;
        id = s.id;
        owner = record { sid = s.sid; iuc = codes.station_maintenance };
        slots = c.station_minislots;
        start = quarters s.start_us;
        interval = quarters s.interval_us;
        jitter = quarters s.jitter_us;
        grants = 1;
        silence = None;
      }) else None) (IsLawfulEntry t c)
      by true same =
          lawful_entry t c kinds.Station s.id s.sid codes.station_maintenance c.station_minislots s.start_us s.interval_us
          s.jitter_us 1 None is.schedule is.sid.1 (omega arith) (λ e. omega (arith, e)) own_channel.station_minislots.0
          (subst (Fits t (λ channel. channel.station_minislots))
          (ap (channel_with t.channels) (same refl) ∙ channel_is) is.maintenance) (omega arith) (omega arith) tt
      by false same = tt

pub entries_are_lawful : EntriesAreLawful
entries_are_lawful t lawful c has =
    entries_all t c lawful (IsLawfulEntry t c) (λ x. flow_lawful t lawful c has x.word x.flow) (station_lawful t lawful c has)

-- the words of a flow whose activity is detected

flow_silence : (c : Channel) (x : WordedFlow) → IfSome (entry_of_flow c x)
    (λ e. IfSome e.silence (λ s. (tells_activity x.flow.kind ≡ true) × (s.word ≡ x.word)))
flow_silence c x = by (slice_index x.flow.channels 0 == c.id)
  where
    of_kind : (k : SchedulingType) → IfSome (scheduled c x.word x.flow k)
        (λ e. IfSome e.silence (λ s. (tells_activity k ≡ true) × (s.word ≡ x.word)))
    of_kind BestEffort = tt
    of_kind NonRealTimePolling = tt
    of_kind RealTimePolling = tt
    of_kind ActivityDetection = (refl, refl)
    of_kind UnsolicitedGrant = tt

    by : (b : Bool) → IfSome (if b then scheduled c x.word x.flow x.flow.kind else None)
        (λ e. IfSome e.silence (λ s. (tells_activity x.flow.kind ≡ true) × (s.word ≡ x.word)))
    by true = of_kind x.flow.kind
    by false = tt

station_silence : (c : Channel) (s : Station) → IfSome (entry_of_station c s) (λ e. e.silence ≡ None)
station_silence c s = by (s.channel == c.id)
  where
    by : (b : Bool) → IfSome {T = Entry} (if b then Some (record {
      kind = kinds.Station;
      id = s.id;
      owner = record { sid = s.sid; iuc = codes.station_maintenance };
      slots = c.station_minislots;
      start = quarters s.start_us;
      interval = quarters s.interval_us;
      jitter = quarters s.jitter_us;
      grants = 1;
      silence = None;
    }) else None) (λ e. e.silence ≡ None)
    by true = refl
    by false = tt

worded_at : (word : ℕ) (flows : List FlowTable) (i : ℕ) (x : WordedFlow) →
    slice_get (with_words word flows) i ≡ Some x →
    (slice_get flows i ≡ Some x.flow) × (x.word ≡ word + words_before flows i)
worded_at word [] i x at = let never : None ≡ Some x = at in cc
worded_at word (flow ∷ flows) zero x at =
    let first : WordedFlow = record { word = word; flow = flow } in
    let same : Some first ≡ Some x = at in
    let equal : first ≡ x = cc in
    let none : word ≡ word + 0 = omega arith in
    (ap (λ y. Some y.flow) equal, sym (ap (λ y. y.word) equal) ∙ none)
worded_at word (flow ∷ flows) (suc i) x at =
    let rest = worded_at (word + length (words_in flow)) flows i x at in
    let long = length-append (words_in flow) (flat_map words_in (take i flows)) in
    (rest.0, omega (arith, rest.1, long))

pub entries_have_words : EntriesHaveWords
entries_have_words t lawful c e s has is = elim (all_of t lawful c e has) [
  | inl flow ↦
      let x : WordedFlow = flow.1 in
      let own = subst (λ o. IfSome o (λ e. IfSome e.silence (λ s. (tells_activity x.flow.kind ≡ true) × (s.word ≡ x.word))))
      flow.3 (flow_silence c x) in
      let words = subst (λ o. IfSome o (λ s. (tells_activity x.flow.kind ≡ true) × (s.word ≡ x.word))) is own in
      let at = worded_at 0 t.flows flow.0 x flow.2 in
      let activity = activity_has_words t flow.0 x.flow at.0 words.0 in
      let word : words_before t.flows flow.0 ≡ s.word = omega (arith, words.1, at.1) in (
        x.flow,
        sym (of_flow c x e flow.3).0,
        subst (λ n. slice_get (words_of t) n ≡ Some (Silent x.flow)) word activity.0,
        subst (λ n. slice_get (words_of t) (n + 1) ≡ Some (Active x.flow)) word activity.1,
      )
  | inr station ↦
      let none = subst (λ o. IfSome o (λ e. e.silence ≡ None)) station.3 (station_silence c station.1) in
      let never : None ≡ Some s = sym none ∙ is in absurd cc
]
