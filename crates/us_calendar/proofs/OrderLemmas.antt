-- Entries that are sorted by kind and id stand in order.
use Rattle.std.proofs.Common.{◌≡◌, ◌≢◌, ℕ, zero, suc, ◌+◌, ◌*◌, ◌<◌, ◌≤◌, ◌⊎◌, ◌==◌, ◌||◌, ◌&&◌, nat_lt, Bool, true, false, List, [], ◌∷◌, ◌++◌, length, map, filter_map, get_or, Option, Some, None, IfSome, slice_index, if◌then◌else◌, ltb, eqb, nat_cmp, Less, Equal, Greater, is_lt, IsPermutation, refl, sym, ap, ◌∙◌, inl, inr, subst, le-ltb, lt-ltb, eq-eqb, ne_eqb, arith}
use Rattle.std.specs.Ordering.{ordering_then}
use Rattle.std.specs.List.{AllByRecursion, IsDistinct, cons_option}
use Rattle.std.specs.List.Sorted.{IsNonDecreasing, IsNonDecreasingBy}
use Rattle.std.proofs.lemmas.Bool.{cases_order, cases_lt}
use Rattle.std.proofs.lemmas.List.{map-append, length-append}
use Rattle.std.proofs.lemmas.List.Elements.{All-from_recursion}
use Rattle.std.proofs.lemmas.List.Sorted.{All-permutation, length_permutation, IsNonDecreasingBy-from_all_adjacent}
use Rattle.std.proofs.lemmas.Map.Keys.{IsDistinct-cons, IsDistinct-head, IsDistinct-tail}
use Rattle.us_flows.specs.Tables.{Tables, FlowTable}
use Rattle.us_flows.specs.Clusters.{words_in}
use Rattle.us_flows.specs.Lawful.{AreTables, AreApart, IsFlow, IsStation}
use Rattle.us_flows.specs.declared.channels.Channel.{Channel}
use Rattle.us_flows.specs.declared.stations.Station.{Station}
use Rattle.us_flows.specs.declared.flows.SchedulingType.{SchedulingType}
use Rattle.us_flows.specs.declared.flows.SchedulingType.TheVariants.{BestEffort, NonRealTimePolling, RealTimePolling, ActivityDetection, UnsolicitedGrant}
use Rattle.us_flows.proofs.RankLemmas.{all_more, sorted-in_place}
use Rattle.us_flows.proofs.TurnLemmas.{all-append}
use Rattle.us_slots.specs.UsageCodes as codes
use Rattle.us_calendar.specs.declared.kinds.Kind.TheVariants as kinds
use Rattle.us_calendar.specs.Entries.{Entry, WordedFlow, with_words, quarters, rank_of, goes_before, in_order, entries, scheduled, entry_of_flow, entry_of_station}

-- what entries are sorted by, as one number
abbrev pub number : Entry → ℕ
number e = rank_of e.kind * 65536 + e.id

abbrev pub HasId : Entry → Type 0
HasId e = e.id ≤ 65535

pub before_number : (r i s j : ℕ) → i ≤ 65535 → j ≤ 65535 →
    (nat_lt r s || ((r == s) && nat_lt i j)) ≡ ltb (r * 65536 + i) (s * 65536 + j)
before_number r i s j li lj = elim (cases_order r s) [
  | inl e ↦ elim (cases_lt i j) [
    | inl l ↦
        rw (le-ltb r s (omega (arith, e)), eq-eqb r s e, lt-ltb i j l, lt-ltb (r * 65536 + i) (s * 65536 + j) (omega (arith, e, l))) refl
    | inr l ↦
        rw (le-ltb r s (omega (arith, e)), eq-eqb r s e, le-ltb i j l, le-ltb (r * 65536 + i) (s * 65536 + j) (omega (arith, e, l))) refl
  ]
  | inr other ↦ elim other [
    | inl l ↦ rw (lt-ltb r s l, lt-ltb (r * 65536 + i) (s * 65536 + j) (omega (arith, l, li))) refl
    | inr l ↦
        rw (le-ltb r s (omega (arith, l)), ne_eqb r s (λ e. omega (arith, e, l)), le-ltb (r * 65536 + i) (s * 65536 + j) (omega (arith, l, lj))) refl
  ]
]

-- how two numbers compare
order_of : (x y : ℕ) →
    ((x < y) × (nat_cmp x y ≡ Less)) ⊎ (((x ≡ y) × (nat_cmp x y ≡ Equal)) ⊎ ((y < x) × (nat_cmp x y ≡ Greater)))
order_of x y = elim (cases_order x y) [
  | inl e ↦ inr (inl (e, rw (le-ltb x y (omega (arith, e)), eq-eqb x y e) refl))
  | inr other ↦ elim other [
    | inl l ↦ inl (l, rw (lt-ltb x y l) refl)
    | inr l ↦ inr (inr (l, rw (le-ltb x y (omega (arith, l)), ne_eqb x y (λ e. omega (arith, l, e))) refl))
  ]
]

not_lower : (r i s j : ℕ) → i ≤ 65535 → j ≤ 65535 → is_lt (ordering_then (nat_cmp s r) (nat_cmp j i)) ≡ false →
    r * 65536 + i ≤ s * 65536 + j
not_lower r i s j li lj h = elim (order_of s r) [
  | inl l ↦ let never : true ≡ false = rw l.1 at h in absurd cc
  | inr other ↦ elim other [
    | inr l ↦ let above = l.0 in omega (arith, above, li)
    | inl e ↦ elim (order_of j i) [
      | inl l ↦ let never : true ≡ false = rw (e.1, l.1) at h in absurd cc
      | inr more ↦ elim more [
        | inl f ↦ omega (arith, e.0, f.0)
        | inr l ↦ let above = l.0 in omega (arith, e.0, above)
      ]
    ]
  ]
]

-- of whose entries these are

pub flow_made : (c : Channel) (f : WordedFlow) →
    IfSome (entry_of_flow c f) (λ e. (e.id ≡ f.flow.id) × (rank_of e.kind ≤ 3))
flow_made c f = by (slice_index f.flow.channels 0 == c.id)
  where
    of_kind : (k : SchedulingType) →
        IfSome (scheduled c f.word f.flow k) (λ e. (e.id ≡ f.flow.id) × (rank_of e.kind ≤ 3))
    of_kind BestEffort = tt
    of_kind NonRealTimePolling = (refl, omega arith)
    of_kind RealTimePolling = (refl, omega arith)
    of_kind ActivityDetection = (refl, omega arith)
    of_kind UnsolicitedGrant = (refl, omega arith)

    by : (b : Bool) → IfSome (if b then scheduled c f.word f.flow f.flow.kind else None)
        (λ e. (e.id ≡ f.flow.id) × (rank_of e.kind ≤ 3))
    by true = of_kind f.flow.kind
    by false = tt

pub station_made : (c : Channel) (s : Station) → IfSome (entry_of_station c s) (λ e. (e.id ≡ s.id) × (rank_of e.kind ≡ 4))
station_made c s = by (s.channel == c.id)
  where
    by : (b : Bool) → IfSome {T = Entry} (if b then Some (record {
      kind = kinds.Station;
      id = s.id;
      owner = record { sid = s.sid; iuc = codes.station_maintenance };
      slots = c.station_minislots;
      start = quarters s.start_us;
      interval = quarters s.interval_us;
      jitter = quarters s.jitter_us;
      grants = 1;
      silence = None;
    }) else None) (λ e. (e.id ≡ s.id) × (rank_of e.kind ≡ 4))
    by true = (refl, refl)
    by false = tt

other_id : (a b : Entry) → HasId a → HasId b → a.id ≢ b.id → eqb (number a) (number b) ≡ false
other_id a b ha hb apart = ne_eqb (number a) (number b) (λ same. elim (cases_order a.id b.id) [
  | inl e ↦ apart e
  | inr other ↦ elim other [
    | inl l ↦ elim (cases_order (rank_of a.kind) (rank_of b.kind)) [
      | inl e ↦ omega (arith, same, l, e)
      | inr more ↦ elim more [ inl m ↦ omega (arith, same, ha, hb, m) | inr m ↦ omega (arith, same, ha, hb, m) ]
    ]
    | inr l ↦ elim (cases_order (rank_of a.kind) (rank_of b.kind)) [
      | inl e ↦ omega (arith, same, l, e)
      | inr more ↦ elim more [ inl m ↦ omega (arith, same, ha, hb, m) | inr m ↦ omega (arith, same, ha, hb, m) ]
    ]
  ]
])

no_numbers : IsDistinct eqb []
unfolding IsDistinct
no_numbers = tt

-- the entries of a list of tables that have ids
module _ {X : Type 0} (id : X → ℕ) (h : X → Option Entry) (turn : ℕ → Type 0)
    (made : (x : X) → IfSome (h x) (λ e. (e.id ≡ id x) × turn (rank_of e.kind))) where
  abbrev IsMade : Entry → Type 0
  IsMade e = HasId e × turn (rank_of e.kind)

  made_cons : (o : Option Entry) (x : X) (es : List Entry) → IfSome o (λ e. (e.id ≡ id x) × turn (rank_of e.kind)) →
      id x ≤ 65535 → AllByRecursion IsMade es → AllByRecursion IsMade (cons_option o es)
  made_cons None x es is few all = all
  made_cons (Some e) x es is few all = ((omega (arith, is.0, few), is.1), all)

  all_made : (xs : List X) → AllByRecursion (λ x. id x ≤ 65535) xs → AllByRecursion IsMade (filter_map h xs)
  all_made [] few = tt
  all_made (x ∷ xs) few = made_cons (h x) x (filter_map h xs) (made x) few.0 (all_made xs few.1)

  other_cons : (e : Entry) (o : Option Entry) (x : X) (es : List Entry) →
      IfSome o (λ d. (d.id ≡ id x) × turn (rank_of d.kind)) → HasId e → id x ≤ 65535 → e.id ≢ id x →
      AllByRecursion (λ n. eqb (number e) n ≡ false) (map number es) →
      AllByRecursion (λ n. eqb (number e) n ≡ false) (map number (cons_option o es))
  other_cons e None x es is has few apart all = all
  other_cons e (Some d) x es is has few apart all =
      (other_id e d has (omega (arith, is.0, few)) (λ same. apart (same ∙ is.0)), all)

  others : (e : Entry) (xs : List X) → HasId e → AllByRecursion (λ x. id x ≤ 65535) xs →
      AllByRecursion (λ n. e.id ≢ n) (map id xs) →
      AllByRecursion (λ n. eqb (number e) n ≡ false) (map number (filter_map h xs))
  others e [] has few apart = tt
  others e (x ∷ xs) has few apart =
      other_cons e (h x) x (filter_map h xs) (made x) has few.0 apart.0 (others e xs has few.1 apart.1)

  distinct_cons : (o : Option Entry) (x : X) (xs : List X) →
      IfSome o (λ d. (d.id ≡ id x) × turn (rank_of d.kind)) → id x ≤ 65535 → AllByRecursion (λ y. id y ≤ 65535) xs →
      AllByRecursion (λ n. id x ≢ n) (map id xs) → IsDistinct eqb (map number (filter_map h xs)) →
      IsDistinct eqb (map number (cons_option o (filter_map h xs)))
  distinct_cons None x xs is few all apart rest = rest
  distinct_cons (Some d) x xs is few all apart rest =
      IsDistinct-cons eqb (number d) (map number (filter_map h xs))
      (others d xs (omega (arith, is.0, few)) all
      (all_more (λ n. id x ≢ n) (λ n. d.id ≢ n) (λ n no_id same. no_id (sym is.0 ∙ same)) (map id xs) apart)) rest

  distinct : (xs : List X) → AllByRecursion (λ x. id x ≤ 65535) xs → AreApart (map id xs) →
      IsDistinct eqb (map number (filter_map h xs))
  distinct [] few apart = no_numbers
  distinct (x ∷ xs) few apart =
      distinct_cons (h x) x xs (made x) few.0 few.1 apart.0 (distinct xs few.1 apart.1)

  few_cons : (o : Option Entry) (es : List Entry) → length (cons_option o es) ≤ 1 + length es
  few_cons None es = omega arith
  few_cons (Some e) es = omega arith

  few_made : (xs : List X) → length (filter_map h xs) ≤ length xs
  few_made [] = omega arith
  few_made (x ∷ xs) = omega (arith, few_cons (h x) (filter_map h xs), few_made xs)

distinct-append : (xs ys : List ℕ) → IsDistinct eqb xs → IsDistinct eqb ys →
    AllByRecursion (λ x. AllByRecursion (λ y. eqb x y ≡ false) ys) xs → IsDistinct eqb (xs ++ ys)
distinct-append [] ys own rest cross = rest
distinct-append (x ∷ xs) ys own rest cross =
    IsDistinct-cons eqb x (xs ++ ys)
    (all-append (λ y. eqb x y ≡ false) xs ys (IsDistinct-head eqb x xs own) cross.0)
    (distinct-append xs ys (IsDistinct-tail eqb x xs own) rest cross.1)

all_numbers : (P : ℕ → Type 0) (Q : Entry → Type 0) → ((e : Entry) → Q e → P (number e)) → (es : List Entry) →
    AllByRecursion Q es → AllByRecursion P (map number es)
all_numbers P Q each [] all = tt
all_numbers P Q each (e ∷ es) all = (each e all.0, all_numbers P Q each es all.1)

-- sorted

get_or-mapped : (f : Entry → ℕ) (es : List Entry) (i d : ℕ) (e : Entry) → i < length es →
    get_or (map f es) i d ≡ f (get_or es i e)
get_or-mapped f [] i d e within = absurd (omega (arith, within))
get_or-mapped f (x ∷ es) zero d e within = refl
get_or-mapped f (x ∷ es) (suc i) d e within = get_or-mapped f es i d e (omega (arith, within))

length-mapped : (f : Entry → ℕ) (es : List Entry) → length (map f es) ≡ length es
length-mapped f [] = refl
length-mapped f (x ∷ es) = omega (arith, length-mapped f es)

rises-mapped : (f : Entry → ℕ) (es : List Entry) (e : Entry) → IsNonDecreasingBy f es → IsNonDecreasing (map f es)
rises-mapped f es e rises i j d low high =
    let within : j < length es = omega (arith, high, length-mapped f es) in
    let next = rises i j e low within in
    omega (arith, next, get_or-mapped f es i d e (omega (arith, low, within)), get_or-mapped f es j d e within)

abbrev compares : Entry → Entry → Bool
compares a b = is_lt (ordering_then (nat_cmp (rank_of a.kind) (rank_of b.kind)) (nat_cmp a.id b.id))

abbrev blank : Entry
blank = record {
  kind = kinds.Station;
  id = 0;
  owner = record { sid = 0; iuc = 0 };
  slots = 0;
  start = 0;
  interval = 0;
  jitter = 0;
  grants = 0;
  silence = None;
}

in_order-is : (es now : List Entry) → AllByRecursion HasId es → IsDistinct eqb (map number es) → IsPermutation es now →
    ((k : ℕ) (d : Entry) → 0 ≤ k → k + 1 < length now → compares (get_or now (k + 1) d) (get_or now k d) ≡ false) →
    now ≡ in_order es
in_order-is es now ids apart moved sorted =
    let all = All-permutation HasId es now moved (All-from_recursion HasId es ids) in
    let rises = IsNonDecreasingBy-from_all_adjacent number now (λ k d within.
    let a : Entry = get_or now k d in
    let b : Entry = get_or now (k + 1) d in
    not_lower (rank_of a.kind) a.id (rank_of b.kind) b.id (all k d (omega (arith, within))) (all (k + 1) d within)
    (sorted k d (omega arith) within)) in
    let same = all_more HasId (λ x. AllByRecursion (λ y. goes_before y x ≡ ltb (number y) (number x)) es)
    (λ x is_x. all_more HasId (λ y. goes_before y x ≡ ltb (number y) (number x))
    (λ y is_y. before_number (rank_of y.kind) y.id (rank_of x.kind) x.id is_y is_x) es ids) es ids in
    sym (sorted-in_place goes_before number es now same apart moved (rises-mapped number now blank rises))

-- flows with their words are those flows

pub worded_all : (P : FlowTable → Type 0) (word : ℕ) (fs : List FlowTable) → AllByRecursion P fs →
    AllByRecursion (λ (f : WordedFlow). P f.flow) (with_words word fs)
worded_all P word [] all = tt
worded_all P word (f ∷ fs) all = (all.0, worded_all P (word + length (words_in f)) fs all.1)

pub worded_ids : (word : ℕ) (fs : List FlowTable) →
    map (λ (f : WordedFlow). f.flow.id) (with_words word fs) ≡ map (λ f. f.id) fs
worded_ids word [] = refl
worded_ids word (f ∷ fs) = ap (λ ids. f.id ∷ ids) (worded_ids (word + length (words_in f)) fs)

worded_many : (word : ℕ) (fs : List FlowTable) → length (with_words word fs) ≡ length fs
worded_many word [] = refl
worded_many word (f ∷ fs) = ap suc (worded_many (word + length (words_in f)) fs)

-- the entries of tables

few_flows : (t : Tables) (fs : List FlowTable) → AllByRecursion (IsFlow t) fs → AllByRecursion (λ f. f.id ≤ 65535) fs
few_flows t fs all = all_more (IsFlow t) (λ f. f.id ≤ 65535) (λ f is. is.id.1) fs all

few_stations : (t : Tables) (ss : List Station) → AllByRecursion (IsStation t) ss →
    AllByRecursion (λ s. s.id ≤ 65535) ss
few_stations t ss all = all_more (IsStation t) (λ s. s.id ≤ 65535) (λ s is. is.id.1) ss all

module _ (t : Tables) (c : Channel) (lawful : AreTables t) where
  abbrev pub worded : List WordedFlow
  worded = with_words 0 t.flows

  flow_ids : AllByRecursion (λ (f : WordedFlow). f.flow.id ≤ 65535) worded
  flow_ids = worded_all (λ f. f.id ≤ 65535) 0 t.flows (few_flows t t.flows lawful.flows)

  pub worded_apart : AreApart (map (λ (f : WordedFlow). f.flow.id) worded)
  worded_apart = subst AreApart (sym (worded_ids 0 t.flows)) lawful.flows_apart

  abbrev pub flows_first : List Entry
  flows_first = filter_map (entry_of_flow c) worded

  abbrev pub stations_then : List Entry
  stations_then = filter_map (entry_of_station c) t.stations

  flow_entries : AllByRecursion (λ e. HasId e × (rank_of e.kind ≤ 3)) flows_first
  flow_entries =
      all_made (λ (f : WordedFlow). f.flow.id) (entry_of_flow c) (λ r. r ≤ 3) (flow_made c) worded flow_ids

  station_entries : AllByRecursion (λ e. HasId e × (rank_of e.kind ≡ 4)) stations_then
  station_entries =
      all_made (λ s. s.id) (entry_of_station c) (λ r. r ≡ 4) (station_made c) t.stations
      (few_stations t t.stations lawful.stations)

  cross : AllByRecursion (λ x. AllByRecursion (λ y. eqb x y ≡ false) (map number stations_then)) (map number flows_first)
  cross =
      all_numbers (λ x. AllByRecursion (λ y. eqb x y ≡ false) (map number stations_then))
      (λ e. HasId e × (rank_of e.kind ≤ 3))
      (λ e is_e. all_numbers (λ y. eqb (number e) y ≡ false) (λ d. HasId d × (rank_of d.kind ≡ 4))
      (λ d is_d. ne_eqb (number e) (number d) (λ same. omega (arith, same, is_e.0, is_e.1, is_d.1))) stations_then
      station_entries) flows_first flow_entries

  pub all_ids : AllByRecursion HasId (flows_first ++ stations_then)
  all_ids =
      all-append HasId flows_first stations_then
      (all_more (λ e. HasId e × (rank_of e.kind ≤ 3)) HasId (λ e is. is.0) flows_first flow_entries)
      (all_more (λ e. HasId e × (rank_of e.kind ≡ 4)) HasId (λ e is. is.0) stations_then station_entries)

  pub all_apart : IsDistinct eqb (map number (flows_first ++ stations_then))
  all_apart =
      rw (map-append number flows_first stations_then) (distinct-append (map number flows_first) (map number stations_then)
      (distinct (λ (f : WordedFlow). f.flow.id) (entry_of_flow c) (λ r. r ≤ 3) (flow_made c) worded flow_ids
      worded_apart)
      (distinct (λ s. s.id) (entry_of_station c) (λ r. r ≡ 4) (station_made c) t.stations
      (few_stations t t.stations lawful.stations) lawful.stations_apart) cross)

  pub entries-are : (now : List Entry) → IsPermutation (flows_first ++ stations_then) now →
      ((k : ℕ) (d : Entry) → 0 ≤ k → k + 1 < length now → compares (get_or now (k + 1) d) (get_or now k d) ≡ false) →
      now ≡ entries t c
  unfolding entries
  entries-are now moved sorted = in_order-is (flows_first ++ stations_then) now all_ids all_apart moved sorted

  pub entries-few : (now : List Entry) → IsPermutation (flows_first ++ stations_then) now → length now ≤ 1280
  entries-few now moved =
      let flows = few_made (λ (f : WordedFlow). f.flow.id) (entry_of_flow c) (λ r. r ≤ 3) (flow_made c) worded in
      let count = worded_many 0 t.flows in
      let stations = few_made (λ s. s.id) (entry_of_station c) (λ r. r ≡ 4) (station_made c) t.stations in
      let long = length-append flows_first stations_then in
      let same = length_permutation (flows_first ++ stations_then) now moved in
      omega (arith, flows, count, stations, long, same, lawful.few_flows, lawful.few_stations)
