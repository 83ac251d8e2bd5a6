-- Turns of the tables, as places and as clusters, and the order that they are sorted into.
use Rattle.std.proofs.Common.{◌≡◌, ◌≢◌, ℕ, ◌+◌, ◌*◌, ◌-◌, ◌<◌, ◌≤◌, List, [], ◌∷◌, ◌++◌, length, map, drop, get_or, flat_map, Bool, true, false, ◌&&◌, ◌||◌, if◌then◌else◌, ◌==◌, nat_lt, ltb, eqb, Option, Some, slice_get, option_map, option_and_then, refl, sym, ap, ap₂, ◌∙◌, inl, inr, append_assoc, nat_cmp, is_lt, ne_eqb, eq-eqb, lt-ltb, le-ltb, arith}
use Rattle.std.specs.Ordering.{ordering_then}
use Rattle.std.specs.List.{AllByRecursion, IsDistinct}
use Rattle.std.proofs.lemmas.Bool.{cases_order, cases_lt}
use Rattle.std.proofs.lemmas.List.{drop_more, length-append, map-append}
use Rattle.std.proofs.lemmas.Map.Keys.{IsDistinct-cons, IsDistinct-head, IsDistinct-tail}
use Rattle.us_flows.specs.Tables.{FlowTable}
use Rattle.us_flows.specs.Clusters as clusters
use Rattle.us_flows.specs.Clusters.{Cluster, clusters_from, makes_requests, requesting, turns_for, turns_from, words_in}
use Rattle.us_flows.specs.Turns.{in_flow}
use Rattle.us_flows.specs.Lawful.{AreApart}
use Rattle.us_flows.specs.Ranks.{cluster_turns, flow_turns, table_turns, IsRanked}
use Rattle.us_flows.specs.declared.turns.Turn.{Turn}
use Rattle.us_flows.proofs.RankLemmas.{order_of, all_map}

-- steps of the loops

pub cluster_turns-more : (turns : List Turn) (place number list : ℕ) (clusters : List (List ℕ)) → list < length clusters →
    (turns ++ record { flow = place; list = list; cluster = number + list } ∷ []) ++
    cluster_turns place (number + (list + 1)) (list + 1) (drop (list + 1) clusters) ≡
    turns ++ cluster_turns place (number + list) list (drop list clusters)
cluster_turns-more turns place number list clusters within =
    let turn : Turn = record { flow = place; list = list; cluster = number + list } in
    let rest : List (List ℕ) = drop (list + 1) clusters in
    let next : number + (list + 1) ≡ number + list + 1 = omega arith in
    ap (λ n. (turns ++ turn ∷ []) ++ cluster_turns place n (list + 1) rest) next ∙
    append_assoc turns (turn ∷ []) (cluster_turns place (number + list + 1) (list + 1) rest) ∙
    ap (λ left. turns ++ cluster_turns place (number + list) list left) (sym (drop_more clusters list [] within))

pub table_turns-more : (turns : List Turn) (place number : ℕ) (flows : List FlowTable) (flow d : FlowTable) →
    place < length flows → flow ≡ get_or flows place d →
    (turns ++ flow_turns place number flow) ++
    table_turns (place + 1) (number + length (words_in flow)) (drop (place + 1) flows) ≡
    turns ++ table_turns place number (drop place flows)
table_turns-more turns place number flows flow d within is =
    let own : List Turn = flow_turns place number flow in
    let rest : List FlowTable = drop (place + 1) flows in
    let next : flow ∷ rest ≡ drop place flows = ap (λ f. f ∷ rest) is ∙ sym (drop_more flows place d within) in
    append_assoc turns own (table_turns (place + 1) (number + length (words_in flow)) rest) ∙
    ap (λ left. turns ++ table_turns place number left) next

-- as clusters

abbrev pub turn_in : List FlowTable → Turn → Option clusters.Turn
turn_in flows turn = option_and_then (in_flow turn) (slice_get flows turn.flow)

pub get-behind : {X : Type 0} (before : List X) (x : X) (rest : List X) →
    slice_get (before ++ x ∷ rest) (length before) ≡ Some x
get-behind [] x rest = refl
get-behind (b ∷ before) x rest = get-behind before x rest

own_turns : (flows : List FlowTable) (flow : FlowTable) (place number : ℕ) (before rest : List (List ℕ)) →
    slice_get flows place ≡ Some flow → flow.clusters ≡ before ++ rest →
    map (turn_in flows) (cluster_turns place number (length before) rest) ≡
    map Some (turns_for place number (clusters_from flow (length before) rest))
own_turns flows flow place number before [] at is = refl
own_turns flows flow place number before (sids ∷ rest) at is =
    let turn : Turn = record { flow = place; list = length before; cluster = number } in
    let here : slice_get flow.clusters (length before) ≡ Some sids =
    ap (λ lists. slice_get lists (length before)) is ∙ get-behind before sids rest in
    let found : turn_in flows turn ≡ Some (record {
      number = number;
      place = place;
      cluster = record { flow = flow; list = length before; sids = sids };
    }) = ap (option_and_then (in_flow turn)) at ∙ ap (option_map (λ s. record {
      number = number;
      place = place;
      cluster = record { flow = flow; list = length before; sids = s };
    })) here in
    let long : length (before ++ sids ∷ []) ≡ length before + 1 = length-append before (sids ∷ []) in
    let more = own_turns flows flow place (number + 1) (before ++ sids ∷ []) rest at
    (is ∙ sym (append_assoc before (sids ∷ []) rest)) in
    ap₂ (λ a b. a ∷ b) found (rw long at more)

pub flows_turns : (flows before rest : List FlowTable) (number : ℕ) → flows ≡ before ++ rest →
    map (turn_in flows) (table_turns (length before) number rest) ≡
    map Some (turns_from (length before) number rest)
flows_turns flows before [] number is = refl
flows_turns flows before (flow ∷ rest) number is =
    let at : slice_get flows (length before) ≡ Some flow =
    ap (λ fs. slice_get fs (length before)) is ∙ get-behind before flow rest in
    let own : map (turn_in flows) (flow_turns (length before) number flow) ≡
    map Some (turns_for (length before) number (requesting flow)) = by (makes_requests flow.kind) at in
    let long : length (before ++ flow ∷ []) ≡ length before + 1 = length-append before (flow ∷ []) in
    let count : ℕ = number + length (words_in flow) in
    let more = flows_turns flows (before ++ flow ∷ []) rest count (is ∙ sym (append_assoc before (flow ∷ []) rest)) in
    let turns = map-append (turn_in flows) (flow_turns (length before) number flow)
    (table_turns (length before + 1) count rest) in
    let both = map-append Some (turns_for (length before) number (requesting flow))
    (turns_from (length before + 1) count rest) in
    turns ∙ ap₂ (λ a b. a ++ b) own (rw long at more) ∙ sym both
  where
    by : (b : Bool) → slice_get flows (length before) ≡ Some flow →
        map (turn_in flows) (if b then cluster_turns (length before) number 0 flow.clusters else []) ≡
        map Some (turns_for (length before) number (if b then clusters_from flow 0 flow.clusters else []))
    by true at = own_turns flows flow (length before) number [] flow.clusters at refl
    by false at = refl

-- a rank as one number

abbrev pub number_of : ℕ → ℕ → ℕ → ℕ
number_of a b c = (a * 65536 + b) * 65536 + c

pub number_rises : (a b c d e f : ℕ) → b ≤ 65535 → c ≤ 65535 → e ≤ 65535 → f ≤ 65535 →
    is_lt (ordering_then (ordering_then (nat_cmp d a) (nat_cmp e b)) (nat_cmp f c)) ≡ false →
    number_of a b c ≤ number_of d e f
number_rises a b c d e f lb lc le lf h = elim (order_of d a) [
  | inl less ↦ let no : true ≡ false = rw less.1 at h in cc
  | inr other ↦ elim other [
    | inl same ↦ elim (order_of e b) [
      | inl less ↦ let no : true ≡ false = rw (same.1, less.1) at h in cc
      | inr next ↦ elim next [
        | inl equal ↦ elim (order_of f c) [
          | inl less ↦ let no : true ≡ false = rw (same.1, equal.1, less.1) at h in cc
          | inr last ↦ elim last [
            | inl tied ↦ omega (arith, same.0, equal.0, tied.0)
            | inr more ↦ omega (arith, same.0, equal.0, more.0)
          ]
        ]
        | inr more ↦ omega (arith, same.0, more.0, lb, lc, le, lf)
      ]
    ]
    | inr more ↦ omega (arith, more.0, lb, lc, le, lf)
  ]
]

pub before_is : (p i l q j m : ℕ) → p ≤ 255 → q ≤ 255 → i ≤ 65535 → j ≤ 65535 → l ≤ 65535 → m ≤ 65535 →
    (nat_lt q p || ((p == q) && (nat_lt i j || ((i == j) && nat_lt l m)))) ≡
    ltb (number_of (255 - p) i l) (number_of (255 - q) j m)
before_is p i l q j m lp lq li lj ll lm = elim (cases_order p q) [
  | inl e ↦ elim (cases_order i j) [
    | inl f ↦ elim (cases_lt l m) [
      | inl below ↦ rw (
        le-ltb q p (omega (arith, e)),
        eq-eqb p q e,
        le-ltb i j (omega (arith, f)),
        eq-eqb i j f,
        lt-ltb l m below,
        lt-ltb (number_of (255 - p) i l) (number_of (255 - q) j m) (omega (arith, e, f, below)),
      ) refl
      | inr above ↦ rw (
        le-ltb q p (omega (arith, e)),
        eq-eqb p q e,
        le-ltb i j (omega (arith, f)),
        eq-eqb i j f,
        le-ltb l m above,
        le-ltb (number_of (255 - p) i l) (number_of (255 - q) j m) (omega (arith, e, f, above)),
      ) refl
    ]
    | inr other ↦ elim other [
      | inl below ↦ rw (
        le-ltb q p (omega (arith, e)),
        eq-eqb p q e,
        lt-ltb i j below,
        lt-ltb (number_of (255 - p) i l) (number_of (255 - q) j m) (omega (arith, e, below, ll, lm)),
      ) refl
      | inr above ↦ rw (
        le-ltb q p (omega (arith, e)),
        eq-eqb p q e,
        le-ltb i j (omega (arith, above)),
        ne_eqb i j (λ f. omega (arith, above, f)),
        le-ltb (number_of (255 - p) i l) (number_of (255 - q) j m) (omega (arith, e, above, ll, lm)),
      ) refl
    ]
  ]
  | inr other ↦ elim other [
    | inl below ↦ rw (
      le-ltb q p (omega (arith, below)),
      ne_eqb p q (λ e. omega (arith, below, e)),
      le-ltb (number_of (255 - p) i l) (number_of (255 - q) j m)
          (omega (arith, below, lp, lq, li, lj, ll, lm)),
    ) refl
    | inr above ↦ rw (
      lt-ltb q p above,
      lt-ltb (number_of (255 - p) i l) (number_of (255 - q) j m)
          (omega (arith, above, lp, lq, li, lj, ll, lm)),
    ) refl
  ]
]

-- clusters whose numbers have room in a rank

pub record InRange (c : Cluster) : Type 0 where
  pub flow : IsRanked c.flow
  pub list : c.list ≤ 65535

abbrev pub cluster_rank : Cluster → ℕ
cluster_rank c = number_of (255 - c.flow.priority) c.flow.id c.list

abbrev pub turn_rank : clusters.Turn → ℕ
turn_rank turn = cluster_rank turn.cluster

pub all-append : {X : Type 0} (P : X → Type 0) (xs ys : List X) → AllByRecursion P xs → AllByRecursion P ys →
    AllByRecursion P (xs ++ ys)
all-append P [] ys own rest = rest
all-append P (x ∷ xs) ys own rest = (own.0, all-append P xs ys own.1 rest)

all-mapped : {X Y : Type 0} (P : X → Type 0) (Q : Y → Type 0) (f : X → Y) → ((x : X) → P x → Q (f x)) →
    (xs : List X) → AllByRecursion P xs → AllByRecursion Q (map f xs)
all-mapped P Q f each [] h = tt
all-mapped P Q f each (x ∷ xs) h = (each x h.0, all-mapped P Q f each xs h.1)

-- whatever holds of a flow's clusters up to a place
all_clusters : (P : Cluster → Type 0) (flow : FlowTable) (list : ℕ) (lists : List (List ℕ)) →
    ((i : ℕ) (sids : List ℕ) → list ≤ i → i < list + length lists →
    P (record { flow = flow; list = i; sids = sids })) → AllByRecursion P (clusters_from flow list lists)
all_clusters P flow list [] each = tt
all_clusters P flow list (sids ∷ rest) each = (
  each list sids (omega arith) (omega arith),
  all_clusters P flow (list + 1) rest (λ i s low high. each i s (omega (arith, low)) (omega (arith, high))),
)

all_requesting_clusters : (P : Cluster → Type 0) (flow : FlowTable) →
    AllByRecursion P (clusters_from flow 0 flow.clusters) → AllByRecursion P (requesting flow)
all_requesting_clusters P flow all = by (makes_requests flow.kind)
  where
    by : (b : Bool) → AllByRecursion P (if b then clusters_from flow 0 flow.clusters else [])
    by true = all
    by false = tt

-- and of flows
all_of_flows : (P : Cluster → Type 0) (Q : FlowTable → Type 0) →
    ((flow : FlowTable) (list : ℕ) (sids : List ℕ) → Q flow → list < length flow.clusters →
    P (record { flow = flow; list = list; sids = sids })) →
    (flows : List FlowTable) → AllByRecursion Q flows → AllByRecursion P (flat_map requesting flows)
all_of_flows P Q each [] h = tt
all_of_flows P Q each (flow ∷ flows) h =
    all-append P (requesting flow) (flat_map requesting flows)
    (all_requesting_clusters P flow (all_clusters P flow 0 flow.clusters
    (λ i sids low high. each flow i sids h.0 (omega (arith, high)))))
    (all_of_flows P Q each flows h.1)

pub in_range : (flows : List FlowTable) → AllByRecursion IsRanked flows →
    AllByRecursion InRange (flat_map requesting flows)
in_range flows ranges = all_of_flows InRange IsRanked
    (λ flow list sids ranked low. record { flow = ranked; list = omega (arith, ranked.clusters, low) }) flows ranges

-- the clusters of turns

clusters_for : (place number : ℕ) (cs : List Cluster) → map (λ turn. turn.cluster) (turns_for place number cs) ≡ cs
clusters_for place number [] = refl
clusters_for place number (c ∷ cs) = ap (λ more. c ∷ more) (clusters_for place (number + 1) cs)

pub clusters_in : (place number : ℕ) (flows : List FlowTable) →
    map (λ turn. turn.cluster) (turns_from place number flows) ≡ flat_map requesting flows
clusters_in place number [] = refl
clusters_in place number (flow ∷ flows) =
    let next : ℕ = number + length (words_in flow) in
    map-append (λ turn. turn.cluster) (turns_for place number (requesting flow)) (turns_from (place + 1) next flows) ∙
    ap₂ (λ a b. a ++ b) (clusters_for place number (requesting flow)) (clusters_in (place + 1) next flows)

pub all_turned : (P : Cluster → Type 0) (place number : ℕ) (flows : List FlowTable) →
    AllByRecursion P (flat_map requesting flows) → AllByRecursion (λ turn. P turn.cluster) (turns_from place number flows)
all_turned P place number flows all =
    all_map P (λ turn. P turn.cluster) (λ turn. turn.cluster) (λ turn h. h) (turns_from place number flows)
    (rw (clusters_in place number flows) all)

-- ranks are apart

distinct-append : (xs ys : List ℕ) → IsDistinct eqb xs → IsDistinct eqb ys →
    AllByRecursion (λ x. AllByRecursion (λ y. eqb x y ≡ false) ys) xs → IsDistinct eqb (xs ++ ys)
distinct-append [] ys own rest cross = rest
distinct-append (x ∷ xs) ys own rest cross =
    IsDistinct-cons eqb x (xs ++ ys)
    (all-append (λ y. eqb x y ≡ false) xs ys (IsDistinct-head eqb x xs own) cross.0)
    (distinct-append xs ys (IsDistinct-tail eqb x xs own) rest cross.1)

no_ranks : IsDistinct eqb []
unfolding IsDistinct
no_ranks = tt

own_apart : (flow : FlowTable) (list : ℕ) (lists : List (List ℕ)) →
    IsDistinct eqb (map cluster_rank (clusters_from flow list lists))
own_apart flow list [] = no_ranks
own_apart flow list (sids ∷ rest) =
    let here : ℕ = number_of (255 - flow.priority) flow.id list in
    let above = all_clusters (λ c. eqb here (cluster_rank c) ≡ false) flow (list + 1) rest
    (λ i s low high. ne_eqb here (number_of (255 - flow.priority) flow.id i) (λ e. omega (arith, e, low))) in
    IsDistinct-cons eqb here (map cluster_rank (clusters_from flow (list + 1) rest))
    (all-mapped (λ c. eqb here (cluster_rank c) ≡ false) (λ y. eqb here y ≡ false) cluster_rank (λ c h. h)
    (clusters_from flow (list + 1) rest) above)
    (own_apart flow (list + 1) rest)

numbers_apart : (a b c d e f : ℕ) → b ≤ 65535 → c ≤ 65535 → e ≤ 65535 → f ≤ 65535 → b ≢ e →
    eqb (number_of a b c) (number_of d e f) ≡ false
numbers_apart a b c d e f lb lc le lf apart =
    ne_eqb (number_of a b c) (number_of d e f) (λ same. elim (cases_order b e) [
      | inl equal ↦ apart equal
      | inr other ↦ elim other [
        | inl below ↦ elim (cases_order a d) [
          | inl equal ↦ omega (arith, same, below, equal, lc, lf)
          | inr more ↦ elim more [
            | inl less ↦ omega (arith, same, lb, lc, le, lf, less)
            | inr more ↦ omega (arith, same, lb, lc, le, lf, more)
          ]
        ]
        | inr above ↦ elim (cases_order a d) [
          | inl equal ↦ omega (arith, same, above, equal, lc, lf)
          | inr more ↦ elim more [
            | inl less ↦ omega (arith, same, lb, lc, le, lf, less)
            | inr more ↦ omega (arith, same, lb, lc, le, lf, more)
          ]
        ]
      ]
    ])

-- a flow with room, and another id
record IsOther (id : ℕ) (flow : FlowTable) : Type 0 where
  pub ranked : IsRanked flow
  pub other : id ≢ flow.id

others : (id : ℕ) (flows : List FlowTable) → AllByRecursion IsRanked flows →
    AllByRecursion (λ y. id ≢ y) (map (λ f. f.id) flows) → AllByRecursion (IsOther id) flows
others id [] ranges apart = tt
others id (flow ∷ flows) ranges apart =
    (record { ranked = ranges.0; other = apart.0 }, others id flows ranges.1 apart.1)

pub ranks_apart : (flows : List FlowTable) → AllByRecursion IsRanked flows → AreApart (map (λ f. f.id) flows) →
    IsDistinct eqb (map cluster_rank (flat_map requesting flows))
ranks_apart [] ranges apart = no_ranks
ranks_apart (flow ∷ flows) ranges apart =
    let rest : List Cluster = flat_map requesting flows in
    let cross : (i : ℕ) → i < length flow.clusters →
    AllByRecursion (λ y. eqb (number_of (255 - flow.priority) flow.id i) y ≡ false) (map cluster_rank rest) =
    λ i low.
    let here : ℕ = number_of (255 - flow.priority) flow.id i in
    all-mapped (λ c. eqb here (cluster_rank c) ≡ false) (λ y. eqb here y ≡ false) cluster_rank (λ c h. h) rest
    (all_of_flows (λ c. eqb here (cluster_rank c) ≡ false) (IsOther flow.id)
    (λ f list sids is within.
    numbers_apart (255 - flow.priority) flow.id i (255 - f.priority) f.id list ranges.0.id
    (omega (arith, ranges.0.clusters, low)) is.ranked.id (omega (arith, is.ranked.clusters, within)) is.other)
    flows (others flow.id flows ranges.1 apart.0)) in
    let own : IsDistinct eqb (map cluster_rank (requesting flow)) = own_distinct (makes_requests flow.kind) in
    let crossed = all_requesting_clusters
    (λ c. AllByRecursion (λ y. eqb (cluster_rank c) y ≡ false) (map cluster_rank rest)) flow
    (all_clusters (λ c. AllByRecursion (λ y. eqb (cluster_rank c) y ≡ false) (map cluster_rank rest)) flow 0
    flow.clusters (λ i sids low high. cross i (omega (arith, high)))) in
    rw (map-append cluster_rank (requesting flow) rest)
    (distinct-append (map cluster_rank (requesting flow)) (map cluster_rank rest) own
    (ranks_apart flows ranges.1 apart.1)
    (all-mapped (λ c. AllByRecursion (λ y. eqb (cluster_rank c) y ≡ false) (map cluster_rank rest))
    (λ x. AllByRecursion (λ y. eqb x y ≡ false) (map cluster_rank rest)) cluster_rank (λ c h. h)
    (requesting flow) crossed))
  where
    own_distinct : (b : Bool) → IsDistinct eqb (map cluster_rank (if b then clusters_from flow 0 flow.clusters else []))
    own_distinct true = own_apart flow 0 flow.clusters
    own_distinct false = no_ranks
