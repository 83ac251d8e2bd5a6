-- The entries of lawful tables: each goes before all behind it, and its windows are apart.
use Rattle.std.proofs.Common.{◌≡◌, ℕ, zero, suc, ◌<◌, ◌≤◌, ◌==◌, nat_le, Bool, true, false, cond, List, [], ◌∷◌, ◌++◌, length, map, filter_map, get_or, Option, Some, None, IfSome, slice_index, if◌then◌else◌, ltb, eqb, IsPermutation, refl, sym, ◌∙◌, inl, inr, subst, lt-ltb, eq-eqb, arith}
use Rattle.std.specs.List.{AllByRecursion, IsDistinct, cons_option}
use Rattle.std.specs.List.Sorted.{IsNonDecreasing}
use Rattle.std.proofs.lemmas.Bool.{cases_Bool, cases_eq, leb-true, leb-false}
use Rattle.std.proofs.lemmas.List.Elements.{All-from_recursion, recursion_from_All}
use Rattle.std.proofs.lemmas.List.Sorted.{All-permutation, IsPermutation-refl, IsPermutation-trans, IsPermutation-cons, IsPermutation-insert, IsPermutation-map}
use Rattle.std.proofs.lemmas.Map.Keys.{IsDistinct-head, IsDistinct-tail}
use Rattle.std.proofs.lemmas.Map.Keys.{IsDistinct-IsPermutation}
use Rattle.std.specs.Cmp.{nat_eq_equiv}
use Rattle.us_flows.specs.Tables.{Tables}
use Rattle.us_flows.specs.Lawful.{AreTables, IsFlow, IsStation, IsScheduled}
use Rattle.us_flows.specs.declared.channels.Channel.{Channel}
use Rattle.us_flows.specs.declared.stations.Station.{Station}
use Rattle.us_flows.specs.declared.flows.SchedulingType.{SchedulingType}
use Rattle.us_flows.specs.declared.flows.SchedulingType.TheVariants.{BestEffort, NonRealTimePolling, RealTimePolling, ActivityDetection, UnsolicitedGrant}
use Rattle.us_flows.proofs.RankLemmas.{all_more, sorted-in_place}
use Rattle.us_flows.proofs.TurnLemmas.{all-append}
use Rattle.us_slots.specs.UsageCodes as codes
use Rattle.us_calendar.specs.declared.kinds.Kind.TheVariants as kinds
use Rattle.us_calendar.specs.Entries.{Entry, WordedFlow, quarters, rank_of, goes_before, in_order, entries, scheduled, entry_of_flow, entry_of_station}
use Rattle.us_calendar.proofs.IdealLemmas.{HasWindows}
use Rattle.us_calendar.proofs.OrderLemmas.{number, HasId, before_number, all_ids, all_apart, flows_first, stations_then, worded, worded_all}
use Rattle.us_calendar.proofs.OnceLaws.{IsOrdered}

-- sorting by insertion

abbrev placed : Entry → List Entry → List Entry
placed e [] = e ∷ []
placed e (x ∷ xs) = cond (nat_le (number e) (number x)) (e ∷ x ∷ xs) (x ∷ placed e xs)

abbrev sorted : List Entry → List Entry
sorted [] = []
sorted (e ∷ es) = placed e (sorted es)

abbrev NotBelow : ℕ → List Entry → Type 0
NotBelow least es = AllByRecursion (λ y. least ≤ number y) es

abbrev Rises : List Entry → Type 0
Rises [] = Unit {0}
Rises (e ∷ es) = NotBelow (number e) es × Rises es

placed_moved : (e : Entry) (es : List Entry) → IsPermutation (e ∷ es) (placed e es)
placed_moved e [] = IsPermutation-refl (e ∷ [])
placed_moved e (x ∷ xs) = elim (cases_Bool (nat_le (number e) (number x))) [
  | inl t ↦ rw t (IsPermutation-refl (e ∷ x ∷ xs))
  | inr f ↦
      rw f (IsPermutation-trans (e ∷ x ∷ xs) (x ∷ e ∷ xs) (x ∷ placed e xs) (IsPermutation-insert (x ∷ xs) 1 e)
      (IsPermutation-cons x (e ∷ xs) (placed e xs) (placed_moved e xs)))
]

sorted_moved : (es : List Entry) → IsPermutation es (sorted es)
sorted_moved [] = IsPermutation-refl []
sorted_moved (e ∷ es) =
    IsPermutation-trans (e ∷ es) (e ∷ sorted es) (placed e (sorted es))
    (IsPermutation-cons e es (sorted es) (sorted_moved es)) (placed_moved e (sorted es))

placed_above : (least : ℕ) (e : Entry) (es : List Entry) → least ≤ number e → NotBelow least es →
    NotBelow least (placed e es)
placed_above least e [] low all = (low, tt)
placed_above least e (x ∷ xs) low all = elim (cases_Bool (nat_le (number e) (number x))) [
  | inl t ↦ rw t (low, all)
  | inr f ↦ rw f (all.0, placed_above least e xs low all.1)
]

lower : (least less : ℕ) (es : List Entry) → less ≤ least → NotBelow least es → NotBelow less es
lower least less es low all =
    all_more (λ y. least ≤ number y) (λ y. less ≤ number y) (λ y above. omega (arith, low, above)) es all

placed_rises : (e : Entry) (es : List Entry) → Rises es → Rises (placed e es)
placed_rises e [] rises = (tt, tt)
placed_rises e (x ∷ xs) rises = elim (cases_Bool (nat_le (number e) (number x))) [
  | inl t ↦
      let first = leb-true (number e) (number x) t in
      rw t ((first, lower (number x) (number e) xs first rises.0), rises)
  | inr f ↦
      let less = leb-false (number e) (number x) f in
      rw f (placed_above (number x) e xs (omega (arith, less)) rises.0, placed_rises e xs rises.1)
]

sorted_rises : (es : List Entry) → Rises (sorted es)
sorted_rises [] = tt
sorted_rises (e ∷ es) = placed_rises e (sorted es) (sorted_rises es)

least_of : (least : ℕ) (es : List Entry) (j d : ℕ) → NotBelow least es → j < length es →
    least ≤ get_or (map number es) j d
least_of least [] j d all inside = absurd (omega (arith, inside))
least_of least (e ∷ es) zero d all inside = all.0
least_of least (e ∷ es) (suc j) d all inside = least_of least es j d all.1 (omega (arith, inside))

long : (es : List Entry) → length (map number es) ≡ length es
long [] = refl
long (e ∷ es) = omega (arith, long es)

non_decreasing : (es : List Entry) → Rises es → IsNonDecreasing (map number es)
non_decreasing es rises = λ i j d low high. by es i j d rises low (omega (arith, high, long es))
  where
    by : (es : List Entry) (i j d : ℕ) → Rises es → i ≤ j → j < length es →
        get_or (map number es) i d ≤ get_or (map number es) j d
    by [] i j d rises low high = absurd (omega (arith, high))
    by (e ∷ es) zero zero d rises low high = omega arith
    by (e ∷ es) zero (suc j) d rises low high = least_of (number e) es j d rises.0 (omega (arith, high))
    by (e ∷ es) (suc i) zero d rises low high = absurd (omega (arith, low))
    by (e ∷ es) (suc i) (suc j) d rises low high = by es i j d rises.1 (omega (arith, low)) (omega (arith, high))

-- numbers that are apart and rise are in order
first_before : (e : Entry) (es : List Entry) → HasId e → AllByRecursion HasId es → NotBelow (number e) es →
    AllByRecursion (λ m. eqb (number e) m ≡ false) (map number es) → AllByRecursion (λ d. goes_before e d ≡ true) es
first_before e [] has ids above apart = tt
first_before e (d ∷ es) has ids above apart = (
  before_number (rank_of e.kind) e.id (rank_of d.kind) d.id has ids.0 ∙ lt-ltb (number e) (number d) less,
  first_before e es has ids.1 above.1 apart.1,
)
  where
    less : number e < number d
    less = elim (cases_eq (number e) (number d)) [
      | inl same ↦
          let never : true ≡ false = sym (eq-eqb (number e) (number d) same) ∙ apart.0 in absurd cc
      | inr other ↦ omega (arith, other, above.0)
    ]

rising_ordered : (es : List Entry) → AllByRecursion HasId es → Rises es → IsDistinct eqb (map number es) → IsOrdered es
rising_ordered [] ids rises apart = tt
rising_ordered (e ∷ es) ids rises apart = (
  first_before e es ids.0 ids.1 rises.0 (IsDistinct-head eqb (number e) (map number es) apart),
  rising_ordered es ids.1 rises.1 (IsDistinct-tail eqb (number e) (map number es) apart),
)

moved_all : (P : Entry → Type 0) (es now : List Entry) → IsPermutation es now → AllByRecursion P es → AllByRecursion P now
moved_all P es now moved all = recursion_from_All P now (All-permutation P es now moved (All-from_recursion P es all))

in_order-sorted : (es : List Entry) → AllByRecursion HasId es → IsDistinct eqb (map number es) → in_order es ≡ sorted es
in_order-sorted es ids apart =
    let same = all_more HasId (λ x. AllByRecursion (λ y. goes_before y x ≡ ltb (number y) (number x)) es)
    (λ x is_x. all_more HasId (λ y. goes_before y x ≡ ltb (number y) (number x))
    (λ y is_y. before_number (rank_of y.kind) y.id (rank_of x.kind) x.id is_y is_x) es ids) es ids in
    sorted-in_place goes_before number es (sorted es) same apart (sorted_moved es)
    (non_decreasing (sorted es) (sorted_rises es))

-- what holds of each entry that is made

module _ {X : Type 0} (P : X → Type 0) (Q : Entry → Type 0) (h : X → Option Entry)
    (each : (x : X) → P x → IfSome (h x) Q) where
  with_made : (o : Option Entry) (es : List Entry) → IfSome o Q → AllByRecursion Q es → AllByRecursion Q (cons_option o es)
  with_made None es is all = all
  with_made (Some e) es is all = (is, all)

  all_made : (xs : List X) → AllByRecursion P xs → AllByRecursion Q (filter_map h xs)
  all_made [] all = tt
  all_made (x ∷ xs) all = with_made (h x) (filter_map h xs) (each x all.0) (all_made xs all.1)

-- windows

flow_windows : (t : Tables) (c : Channel) (f : WordedFlow) → IsFlow t f.flow → IfSome (entry_of_flow c f) HasWindows
flow_windows t c f is = by (slice_index f.flow.channels 0 == c.id)
  where
    of_kind : (k : SchedulingType) → IsScheduled t f.flow k → IfSome (scheduled c f.word f.flow k) HasWindows
    of_kind BestEffort has = tt
    of_kind NonRealTimePolling has = record { grants = omega arith; jitter = omega (arith, has.1.schedule.jitter) }
    of_kind RealTimePolling has = record { grants = omega arith; jitter = omega (arith, has.1.schedule.jitter) }
    of_kind ActivityDetection has = record { grants = has.0.grants; jitter = omega (arith, has.0.schedule.jitter) }
    of_kind UnsolicitedGrant has = record { grants = has.grants; jitter = omega (arith, has.schedule.jitter) }

    by : (b : Bool) → IfSome (if b then scheduled c f.word f.flow f.flow.kind else None) HasWindows
    by true = of_kind f.flow.kind is.scheduled
    by false = tt

station_windows : (t : Tables) (c : Channel) (s : Station) → IsStation t s → IfSome (entry_of_station c s) HasWindows
station_windows t c s is = by (s.channel == c.id)
  where
    by : (b : Bool) → IfSome {T = Entry} (if b then Some (record {
      kind = kinds.Station;
      id = s.id;
      owner = record { sid = s.sid; iuc = codes.station_maintenance };
      slots = c.station_minislots;
      start = quarters s.start_us;
      interval = quarters s.interval_us;
      jitter = quarters s.jitter_us;
      grants = 1;
      silence = None;
    }) else None) HasWindows
    by true = record { grants = omega arith; jitter = omega (arith, is.schedule.jitter) }
    by false = tt

module _ (t : Tables) (c : Channel) (lawful : AreTables t) where
  abbrev unsorted : List Entry
  unsorted = flows_first t c lawful ++ stations_then t c lawful

  entries_sorted : entries t c ≡ sorted unsorted
  unfolding entries
  entries_sorted = in_order-sorted unsorted (all_ids t c lawful) (all_apart t c lawful)

  pub entries_ordered : IsOrdered (entries t c)
  entries_ordered =
      let moved = sorted_moved unsorted in
      let keys = IsPermutation-map number unsorted (sorted unsorted) moved in
      let apart = IsDistinct-IsPermutation eqb (λ x y. nat_eq_equiv.symm x y) (map number unsorted)
      (map number (sorted unsorted)) keys (all_apart t c lawful) in
      subst IsOrdered (sym entries_sorted) (rising_ordered (sorted unsorted)
      (moved_all HasId unsorted (sorted unsorted) moved (all_ids t c lawful)) (sorted_rises unsorted) apart)

  -- these entries, sorted
  pub entries_moved : IsPermutation unsorted (entries t c)
  entries_moved = subst (IsPermutation unsorted) (sym entries_sorted) (sorted_moved unsorted)

  -- what holds of the entries of flows and of stations holds of all
  pub entries_all : (Q : Entry → Type 0) → ((f : WordedFlow) → IsFlow t f.flow → IfSome (entry_of_flow c f) Q) →
      ((s : Station) → IsStation t s → IfSome (entry_of_station c s) Q) → AllByRecursion Q (entries t c)
  entries_all Q flow station =
      moved_all Q unsorted (entries t c) entries_moved
      (all-append Q (flows_first t c lawful) (stations_then t c lawful)
      (all_made (λ (f : WordedFlow). IsFlow t f.flow) Q (entry_of_flow c) flow (worded t c lawful)
      (worded_all (IsFlow t) 0 t.flows lawful.flows))
      (all_made (IsStation t) Q (entry_of_station c) station t.stations lawful.stations))

  pub entries_windows : AllByRecursion HasWindows (entries t c)
  entries_windows = entries_all HasWindows (flow_windows t c) (station_windows t c)
