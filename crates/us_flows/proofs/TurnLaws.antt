-- What holds of all turns, for the crates above: each is the turn of a cluster of the tables, numbers lead to their words
-- and rise in table order, and each word of a cluster has one turn, any other none.
use Rattle.std.proofs.Common.{◌≡◌, ℕ, zero, suc, ◌+◌, ◌<◌, ◌≤◌, List, [], ◌∷◌, ◌++◌, length, map, take, filter, flat_map, count_by, Bool, true, false, cond, if◌then◌else◌, ◌==◌, ◌&&◌, nat_le, Option, Some, None, slice_get, option_map, option_and_then, refl, sym, ap, ap₂, ◌∙◌, subst, inl, inr, append_assoc, eq-eqb, ne_eqb, arith}
use Rattle.std.specs.List.{AllByRecursion, range_with_len}
use Rattle.std.proofs.lemmas.Bool.{cases_Bool, cases_eq, cases_lt, cases_order, le-leb, lt-leb, le-ltb}
use Rattle.std.proofs.lemmas.Grind.{flat_map-append}
use Rattle.std.proofs.lemmas.List.{length-append, map-append, length-map}
use Rattle.std.proofs.lemmas.List.Recursion.{is_count_by}
use Rattle.std.proofs.Math.Seq.{take-append_seam}
use Rattle.us_flows.specs.Tables.{Tables, FlowTable}
use Rattle.us_flows.specs.Clusters.{Turn, Cluster, IsTurnIn, Word, Requests, is_of_cluster, clusters_from, clusters_of, goes_before, in_order, makes_requests, requesting, table_order, turns_for, turns_from, turns_of, words_before, words_in, words_of}
use Rattle.us_flows.specs.Laws.{OneTurn, TurnsAreOfClusters}
use Rattle.us_flows.specs.Lawful.{AreApart}
use Rattle.us_flows.specs.Turns.{turn_at, in_flow}
use Rattle.us_flows.specs.declared.turns.Turn as places
use Rattle.us_flows.specs.declared.flows.SchedulingType.{SchedulingType}
use Rattle.us_flows.specs.declared.flows.SchedulingType.TheVariants.{BestEffort, NonRealTimePolling, RealTimePolling, ActivityDetection, UnsolicitedGrant}
use Rattle.us_flows.proofs.WordLemmas.{length-words, words-requests, words_by}
use Rattle.us_flows.proofs.KeyLaws.{place_of_key}
use Rattle.us_flows.proofs.RankLemmas.{all_more}
use Rattle.us_flows.proofs.TurnLemmas.{all-append, clusters_in, get-behind}

-- each turn is that of a cluster

-- those of the clusters of a flow whose words stand behind others
own_turns_in : (t : Tables) (flow : FlowTable) (place number : ℕ) (before rest : List (List ℕ)) (others later : List Word) →
    slice_get t.flows place ≡ Some flow → makes_requests flow.kind ≡ true → flow.clusters ≡ before ++ rest →
    words_of t ≡ others ++ (map Requests (clusters_from flow (length before) rest) ++ later) →
    number ≡ length others → number ≡ words_before t.flows place + length before →
    AllByRecursion (IsTurnIn t) (turns_for place number (clusters_from flow (length before) rest))
own_turns_in t flow place number before [] others later at makes is words count from = tt
own_turns_in t flow place number before (sids ∷ rest) others later at makes is words count from =
    let own : Cluster = record { flow = flow; list = length before; sids = sids } in
    let long : length (before ++ sids ∷ []) ≡ length before + 1 = length-append before (sids ∷ []) in
    let behind : length (others ++ Requests own ∷ []) ≡ length others + 1 = length-append others (Requests own ∷ []) in
    let left : List Word = map Requests (clusters_from flow (length before + 1) rest) ++ later in
    let moved : words_of t ≡ (others ++ Requests own ∷ []) ++ left =
    words ∙ sym (append_assoc others (Requests own ∷ []) left) in
    let more = own_turns_in t flow place (number + 1) (before ++ sids ∷ []) rest (others ++ Requests own ∷ []) later at makes
    (is ∙ sym (append_assoc before (sids ∷ []) rest))
    (moved ∙ ap (λ n. (others ++ Requests own ∷ []) ++ (map Requests (clusters_from flow n rest) ++ later)) (sym long))
    (omega (arith, count, behind)) (omega (arith, from, long)) in (
      record {
        flow = at;
        requests = makes;
        sids = ap (λ lists. slice_get lists (length before)) is ∙ get-behind before sids rest;
        word = ap₂ slice_get words count ∙ get-behind others (Requests own) left;
        number = omega (
          arith,
          count,
          ap length words,
          length-append others (Requests own ∷ left),
        );
        before = from;
      },
      rw long at more,
    )

turns_in : (t : Tables) (before rest : List FlowTable) → t.flows ≡ before ++ rest →
    AllByRecursion (IsTurnIn t) (turns_from (length before) (length (flat_map words_in before)) rest)
turns_in t before [] is = tt
turns_in t before (flow ∷ rest) is =
    let at : slice_get t.flows (length before) ≡ Some flow =
    ap (λ fs. slice_get fs (length before)) is ∙ get-behind before flow rest in
    let count : ℕ = length (flat_map words_in before) in
    let earlier : words_before t.flows (length before) ≡ count =
    ap (λ fs. length (flat_map words_in (take (length before) fs))) is ∙
    ap (λ fs. length (flat_map words_in fs)) (take-append_seam before (flow ∷ rest)) in
    let all : words_of t ≡ flat_map words_in before ++ (words_in flow ++ flat_map words_in rest) =
    ap (flat_map words_in) is ∙ flat_map-append words_in before (flow ∷ rest) in
    let long : length (before ++ flow ∷ []) ≡ length before + 1 = length-append before (flow ∷ []) in
    let next : length (flat_map words_in (before ++ flow ∷ [])) ≡ count + length (words_in flow) =
    ap length (flat_map-append words_in before (flow ∷ [])) ∙
    length-append (flat_map words_in before) (flat_map words_in (flow ∷ [])) ∙
    ap (λ n. count + n) (length-append (words_in flow) [] ∙ omega arith) in
    let more = turns_in t (before ++ flow ∷ []) rest (is ∙ sym (append_assoc before (flow ∷ []) rest)) in
    all-append (IsTurnIn t) (turns_for (length before) count (requesting flow))
    (turns_from (length before + 1) (count + length (words_in flow)) rest)
    (elim (cases_Bool (makes_requests flow.kind)) [
      | inl makes ↦
          let own = own_turns_in t flow (length before) count [] flow.clusters (flat_map words_in before)
          (flat_map words_in rest) at makes refl
          (all ∙ ap (λ ws. flat_map words_in before ++ (ws ++ flat_map words_in rest)) (words-requests flow makes)) refl
          (omega (arith, earlier)) in
          subst (λ cs. AllByRecursion (IsTurnIn t) (turns_for (length before) count cs))
          (sym (ap (λ b. if b then clusters_from flow 0 flow.clusters else []) makes)) own
      | inr none ↦
          subst (λ cs. AllByRecursion (IsTurnIn t) (turns_for (length before) count cs))
          (sym (ap (λ b. if b then clusters_from flow 0 flow.clusters else []) none)) tt
    ])
    (rw (long, next) at more)

pub table_order-turns : (t : Tables) → AllByRecursion (IsTurnIn t) (table_order t)
table_order-turns t = turns_in t [] t.flows refl

all-filter : {X : Type 0} (P : X → Type 0) (passes : X → Bool) (xs : List X) → AllByRecursion P xs →
    AllByRecursion P (filter passes xs)
all-filter P passes [] h = tt
all-filter P passes (x ∷ xs) h = elim (cases_Bool (passes x)) [
  | inl t ↦ rw t (h.0, all-filter P passes xs h.1)
  | inr f ↦ rw f (all-filter P passes xs h.1)
]

all-picked : {X : Type 0} (P : X → Type 0) (rank : X → ℕ) (xs : List X) (from n : ℕ) → AllByRecursion P xs →
    AllByRecursion P (flat_map (λ place. filter (λ x. rank x == place) xs) (range_with_len from n))
all-picked P rank xs from zero h = tt
all-picked P rank xs from (suc n) h =
    all-append P (filter (λ x. rank x == from) xs)
    (flat_map (λ place. filter (λ x. rank x == place) xs) (range_with_len (from + 1) n))
    (all-filter P (λ x. rank x == from) xs h) (all-picked P rank xs (from + 1) n h)

-- whatever holds of turns holds of them in order
pub in_order-all : (P : Turn → Type 0) (ts : List Turn) → AllByRecursion P ts → AllByRecursion P (in_order ts)
in_order-all P ts h =
    all-picked P (λ turn. count_by (λ other. goes_before other turn) ts) ts 0 (length ts) h

pub turns_of-turns : (t : Tables) → AllByRecursion (IsTurnIn t) (turns_of t)
unfolding turns_of
turns_of-turns t = in_order-all (IsTurnIn t) (table_order t) (table_order-turns t)

-- counts

module _ {X : Type 0} (passes : X → Bool) where
  abbrev counted : List X → ℕ
  counted [] = 0
  counted (x ∷ xs) = cond (passes x) (1 + counted xs) (counted xs)

  counted-is : (xs : List X) → counted xs ≡ count_by passes xs
  counted-is xs = is_count_by counted passes refl (λ _ _. refl) xs

  counted-append : (xs ys : List X) → counted (xs ++ ys) ≡ counted xs + counted ys
  counted-append [] ys = omega arith
  counted-append (x ∷ xs) ys = elim (cases_Bool (passes x)) [
    | inl t ↦ rw t (omega (arith, counted-append xs ys))
    | inr f ↦ rw f (counted-append xs ys)
  ]

  module _ (rank : X → ℕ) where
    -- those whose rank is at least so high
    abbrev above : ℕ → List X → ℕ
    above from [] = 0
    above from (x ∷ xs) = cond (passes x && nat_le from (rank x)) (1 + above from xs) (above from xs)

    above-all : (xs : List X) → above 0 xs ≡ counted xs
    above-all [] = refl
    above-all (x ∷ xs) = elim (cases_Bool (passes x)) [
      | inl t ↦ rw (t, le-leb 0 (rank x) (omega arith)) (ap (λ n. 1 + n) (above-all xs))
      | inr f ↦ rw f (above-all xs)
    ]

    -- where no rank is so high
    none_above : (from : ℕ) (xs : List X) → AllByRecursion (λ x. rank x < from) xs → above from xs ≡ 0
    none_above from [] low = refl
    none_above from (x ∷ xs) low = elim (cases_Bool (passes x)) [
      | inl t ↦ rw (t, lt-leb from (rank x) low.0) (none_above from xs low.1)
      | inr f ↦ rw f (none_above from xs low.1)
    ]

    one_rank : (from : ℕ) (xs : List X) →
        counted (filter (λ x. rank x == from) xs) + above (from + 1) xs ≡ above from xs
    one_rank from [] = refl
    one_rank from (x ∷ xs) = elim (cases_eq (rank x) from) [
      | inl e ↦ elim (cases_Bool (passes x)) [
        | inl t ↦ rw (
          eq-eqb (rank x) from e,
          t,
          lt-leb (from + 1) (rank x) (omega (arith, e)),
          le-leb from (rank x) (omega (arith, e)),
        ) (omega (arith, one_rank from xs))
        | inr f ↦ rw (eq-eqb (rank x) from e, f) (one_rank from xs)
      ]
      | inr other ↦ elim (cases_lt (rank x) from) [
        | inl low ↦ elim (cases_Bool (passes x)) [
          | inl t ↦ rw (
            ne_eqb (rank x) from other,
            t,
            lt-leb (from + 1) (rank x) (omega (arith, low)),
            lt-leb from (rank x) low,
          ) (one_rank from xs)
          | inr f ↦ rw (ne_eqb (rank x) from other, f) (one_rank from xs)
        ]
        | inr high ↦
            let more : from + 1 ≤ rank x = elim (cases_lt from (rank x)) [
              | inl less ↦ omega (arith, less)
              | inr same ↦ absurd (other (omega (arith, same, high)))
            ] in
            elim (cases_Bool (passes x)) [
              | inl t ↦ rw (
                ne_eqb (rank x) from other,
                t,
                le-leb (from + 1) (rank x) more,
                le-leb from (rank x) high,
              ) (omega (arith, one_rank from xs))
              | inr f ↦ rw (ne_eqb (rank x) from other, f) (one_rank from xs)
            ]
      ]
    ]

    -- all are picked whose ranks have a place
    picked-all : (from n : ℕ) (xs : List X) → AllByRecursion (λ x. rank x < from + n) xs →
        counted (flat_map (λ place. filter (λ x. rank x == place) xs) (range_with_len from n)) ≡ above from xs
    picked-all from zero xs low =
        sym (none_above from xs
        (all_more (λ x. rank x < from + 0) (λ x. rank x < from) (λ x h. omega (arith, h)) xs low))
    picked-all from (suc n) xs low =
        let rest : List X = flat_map (λ place. filter (λ x. rank x == place) xs) (range_with_len (from + 1) n) in
        let more = picked-all (from + 1) n xs
        (all_more (λ x. rank x < from + suc n) (λ x. rank x < from + 1 + n) (λ x h. omega (arith, h)) xs low) in
        counted-append (filter (λ x. rank x == from) xs) rest ∙
        ap (λ n. counted (filter (λ x. rank x == from) xs) + n) more ∙ one_rank from xs

-- a turn never goes before itself, so that each has a place
counted-most : {X : Type 0} (passes : X → Bool) (xs : List X) → counted passes xs ≤ length xs
counted-most passes [] = omega arith
counted-most passes (x ∷ xs) = elim (cases_Bool (passes x)) [
  | inl t ↦ rw t (omega (arith, counted-most passes xs))
  | inr f ↦ rw f (omega (arith, counted-most passes xs))
]

not_before : (turn : Turn) → goes_before turn turn ≡ false
not_before turn =
    let flow : FlowTable = turn.cluster.flow in
    rw (
      le-ltb flow.priority flow.priority (omega arith),
      le-ltb flow.id flow.id (omega arith),
      le-ltb turn.cluster.list turn.cluster.list (omega arith),
      eq-eqb flow.priority flow.priority refl,
      eq-eqb flow.id flow.id refl,
    ) refl

abbrev rank_among : List Turn → Turn → ℕ
rank_among ts turn = count_by (λ other. goes_before other turn) ts

all_placed : (before rest : List Turn) →
    AllByRecursion (λ turn. rank_among (before ++ rest) turn < length (before ++ rest)) rest
all_placed before [] = tt
all_placed before (turn ∷ rest) =
    let goes : Turn → Bool = λ other. goes_before other turn in
    let own : counted goes (turn ∷ rest) ≡ counted goes rest = rw (not_before turn) refl in
    let next : List Turn = before ++ turn ∷ [] in
    let here : rank_among (before ++ turn ∷ rest) turn < length (before ++ turn ∷ rest) =
    omega (
      arith,
      sym (counted-is goes (before ++ turn ∷ rest)),
      counted-append goes before (turn ∷ rest),
      own,
      counted-most goes before,
      counted-most goes rest,
      length-append before (turn ∷ rest),
    ) in (
      here,
      subst (λ ts. AllByRecursion (λ x. rank_among ts x < length ts) rest) (append_assoc before (turn ∷ []) rest)
          (all_placed next rest),
    )

-- putting turns in order adds none, and loses none
pub in_order-count : (passes : Turn → Bool) (ts : List Turn) → count_by passes (in_order ts) ≡ count_by passes ts
in_order-count passes ts =
    let placed = all_more (λ turn. rank_among ts turn < length ts) (λ turn. rank_among ts turn < 0 + length ts)
    (λ turn h. omega (arith, h)) ts (all_placed [] ts) in
    let picked = picked-all passes (rank_among ts) 0 (length ts) ts placed in
    sym (counted-is passes (in_order ts)) ∙ picked ∙ above-all passes (rank_among ts) ts ∙ counted-is passes ts

pub in_order-few : (passes : Turn → Bool) (ts : List Turn) → count_by passes (in_order ts) ≤ count_by passes ts
in_order-few passes ts = omega (arith, in_order-count passes ts)

-- numbers

-- the numbers of the words of clusters, where the first word has this number
abbrev pub cluster_numbers : ℕ → List Word → List ℕ
cluster_numbers number [] = []
cluster_numbers number (word ∷ words) =
    if is_of_cluster word then number ∷ cluster_numbers (number + 1) words else cluster_numbers (number + 1) words

numbers-append : (number : ℕ) (xs ys : List Word) →
    cluster_numbers number (xs ++ ys) ≡ cluster_numbers number xs ++ cluster_numbers (number + length xs) ys
numbers-append number [] ys = let same : number ≡ number + 0 = omega arith in ap (λ n. cluster_numbers n ys) same
numbers-append number (x ∷ xs) ys =
    let next : number + 1 + length xs ≡ number + length (x ∷ xs) = omega arith in
    let more = numbers-append (number + 1) xs ys ∙
    ap (λ n. cluster_numbers (number + 1) xs ++ cluster_numbers n ys) next in
    elim (cases_Bool (is_of_cluster x)) [
      | inl t ↦ rw t (ap (λ ns. number ∷ ns) more)
      | inr f ↦ rw f more
    ]

numbers_for : (place number : ℕ) (cs : List Cluster) →
    map (λ turn. turn.number) (turns_for place number cs) ≡ cluster_numbers number (map Requests cs)
numbers_for place number [] = refl
numbers_for place number (c ∷ cs) = ap (λ more. number ∷ more) (numbers_for place (number + 1) cs)

numbers_of_flow : (place number : ℕ) (flow : FlowTable) →
    map (λ turn. turn.number) (turns_for place number (requesting flow)) ≡ cluster_numbers number (words_in flow)
numbers_of_flow place number flow = by flow.kind
  where
    clusters : List Cluster
    clusters = clusters_from flow 0 flow.clusters

    by : (kind : SchedulingType) →
        map (λ turn. turn.number) (turns_for place number (if makes_requests kind then clusters else [])) ≡
        cluster_numbers number (words_by flow kind clusters)
    by BestEffort = numbers_for place number clusters
    by NonRealTimePolling = numbers_for place number clusters
    by RealTimePolling = numbers_for place number clusters
    by ActivityDetection = refl
    by UnsolicitedGrant = refl

numbers_from : (place number : ℕ) (flows : List FlowTable) →
    map (λ turn. turn.number) (turns_from place number flows) ≡ cluster_numbers number (flat_map words_in flows)
numbers_from place number [] = refl
numbers_from place number (flow ∷ flows) =
    let next : ℕ = number + length (words_in flow) in
    map-append (λ turn. turn.number) (turns_for place number (requesting flow)) (turns_from (place + 1) next flows) ∙
    ap₂ (λ a b. a ++ b) (numbers_of_flow place number flow) (numbers_from (place + 1) next flows) ∙
    sym (numbers-append number (words_in flow) (flat_map words_in flows))

-- numbers in table order are those of the words of clusters
pub table_order-numbers : (t : Tables) → map (λ turn. turn.number) (table_order t) ≡ cluster_numbers 0 (words_of t)
table_order-numbers t = numbers_from 0 0 t.flows

pub table_order-clusters : (t : Tables) → map (λ turn. turn.cluster) (table_order t) ≡ clusters_of t
table_order-clusters t = clusters_in 0 0 t.flows

pub table_order-length : (t : Tables) → length (table_order t) ≡ length (clusters_of t)
table_order-length t = sym (length-map (table_order t) (λ turn. turn.cluster)) ∙ ap length (table_order-clusters t)

none_below : (i number : ℕ) (words : List Word) → i < number →
    counted (λ j. j == i) (cluster_numbers number words) ≡ 0
none_below i number [] low = refl
none_below i number (word ∷ words) low =
    let more = none_below i (number + 1) words (omega (arith, low)) in
    elim (cases_Bool (is_of_cluster word)) [
      | inl t ↦ rw (t, ne_eqb number i (λ e. omega (arith, e, low))) more
      | inr f ↦ rw f more
    ]

once_among : (i number : ℕ) (words : List Word) → counted (λ j. j == i) (cluster_numbers number words) ≤ 1
once_among i number [] = omega arith
once_among i number (word ∷ words) = elim (cases_Bool (is_of_cluster word)) [
  | inl t ↦ elim (cases_eq number i) [
    | inl e ↦ rw (t, eq-eqb number i e) (omega (arith, none_below i (number + 1) words (omega (arith, e))))
    | inr other ↦ rw (t, ne_eqb number i other) (once_among i (number + 1) words)
  ]
  | inr f ↦ rw f (once_among i (number + 1) words)
]

-- how often the number of the word at a place is there
count_at : (number place : ℕ) (words : List Word) (word : Word) → slice_get words place ≡ Some word →
    counted (λ j. j == number + place) (cluster_numbers number words) ≡ (if is_of_cluster word then 1 else 0)
count_at number place [] word at = let no : None ≡ Some word = at in cc
count_at number zero (w ∷ words) word at =
    let found : Some w ≡ Some word = at in
    let same : w ≡ word = cc in
    let none = none_below (number + 0) (number + 1) words (omega arith) in
    ap (λ x. counted (λ j. j == number + 0)
    (if is_of_cluster x then number ∷ cluster_numbers (number + 1) words else cluster_numbers (number + 1) words)) same ∙
    elim (cases_Bool (is_of_cluster word)) [
      | inl t ↦ rw (t, eq-eqb number (number + 0) (omega arith), none) refl
      | inr f ↦ rw f none
    ]
count_at number (suc place) (w ∷ words) word at =
    let next : number + 1 + place ≡ number + suc place = omega arith in
    let more = ap (λ i. counted (λ j. j == i) (cluster_numbers (number + 1) words)) (sym next) ∙
    count_at (number + 1) place words word at in
    elim (cases_Bool (is_of_cluster w)) [
      | inl t ↦ rw (t, ne_eqb number (number + suc place) (λ e. omega (arith, e))) more
      | inr f ↦ rw f more
    ]

counted-map : {X : Type 0} (passes : ℕ → Bool) (f : X → ℕ) (xs : List X) →
    counted passes (map f xs) ≡ counted (λ x. passes (f x)) xs
counted-map passes f [] = refl
counted-map passes f (x ∷ xs) = ap (λ n. cond (passes (f x)) (1 + n) n) (counted-map passes f xs)

-- turns of a number are counted by the words
numbers_counted : (t : Tables) (n : ℕ) →
    count_by (λ turn. turn.number == n) (table_order t) ≡ counted (λ i. i == n) (cluster_numbers 0 (words_of t))
numbers_counted t n =
    sym (counted-is (λ turn. turn.number == n) (table_order t)) ∙
    sym (counted-map (λ i. i == n) (λ turn. turn.number) (table_order t)) ∙
    ap (counted (λ i. i == n)) (table_order-numbers t)

-- each number has one turn at most
pub table_order-once : (t : Tables) (n : ℕ) → count_by (λ turn. turn.number == n) (table_order t) ≤ 1
table_order-once t n = omega (arith, numbers_counted t n, once_among n 0 (words_of t))

pub turns_of-once : (t : Tables) (n : ℕ) → count_by (λ turn. turn.number == n) (turns_of t) ≤ 1
unfolding turns_of
turns_of-once t n =
    omega (arith, in_order-few (λ turn. turn.number == n) (table_order t), table_order-once t n)

-- and that of a word has one if the word is a cluster's, else none
pub turns_are_of_clusters : TurnsAreOfClusters
unfolding turns_of
turns_are_of_clusters t number word at =
    let same : number ≡ 0 + number = omega arith in
    in_order-count (λ turn. turn.number == number) (table_order t) ∙ numbers_counted t number ∙
    ap (λ n. counted (λ i. i == n) (cluster_numbers 0 (words_of t))) same ∙ count_at 0 number (words_of t) word at

-- one cluster has one number

-- flows whose ids are apart stand at one place each
pub place_of_id : (flows : List FlowTable) (i j : ℕ) (f g : FlowTable) → AreApart (map (λ f. f.id) flows) →
    slice_get flows i ≡ Some f → slice_get flows j ≡ Some g → f.id ≡ g.id → i ≡ j
place_of_id flows i j f g apart one other same = place_of_key (λ f. f.id) flows i j f g apart one other same

-- two turns of one flow id and one place among the flow's clusters have one number
pub one_number : (t : Tables) (a b : Turn) → AreApart (map (λ f. f.id) t.flows) → IsTurnIn t a → IsTurnIn t b →
    a.cluster.flow.id ≡ b.cluster.flow.id → a.cluster.list ≡ b.cluster.list → a.number ≡ b.number
one_number t a b apart one other ids lists =
    let place = place_of_id t.flows a.place b.place a.cluster.flow b.cluster.flow apart one.flow other.flow ids in
    one.before ∙ ap₂ (λ place list. words_before t.flows place + list) place lists ∙
    sym other.before

-- one number is of one turn

slice_get-below : {X : Type 0} (xs : List X) (i : ℕ) (x : X) → slice_get xs i ≡ Some x → i < length xs
slice_get-below [] i x at = let no : None ≡ Some x = at in cc
slice_get-below (y ∷ xs) zero x at = omega arith
slice_get-below (y ∷ xs) (suc i) x at = omega (arith, slice_get-below xs i x at)

-- before a later flow, the words of a flow are counted
earlier_count : (flows : List FlowTable) (i j : ℕ) (flow : FlowTable) → slice_get flows i ≡ Some flow → i < j →
    words_before flows i + length (words_in flow) ≤ words_before flows j
earlier_count [] i j flow at before = let no : None ≡ Some flow = at in cc
earlier_count (f ∷ flows) i zero flow at before = absurd (omega (arith, before))
earlier_count (f ∷ flows) zero (suc j) flow at before =
    let is : Some f ≡ Some flow = at in
    let same : f ≡ flow = cc in
    let count : length (words_in f) ≡ length (words_in flow) = ap (λ g. length (words_in g)) same in
    omega (arith, count, length-append (words_in f) (flat_map words_in (take j flows)))
earlier_count (f ∷ flows) (suc i) (suc j) flow at before =
    omega (
      arith,
      length-append (words_in f) (flat_map words_in (take i flows)),
      length-append (words_in f) (flat_map words_in (take j flows)),
      earlier_count flows i j flow at (omega (arith, before)),
    )

-- turns of an earlier flow have lower numbers
lower_number : (t : Tables) (a b : Turn) → IsTurnIn t a → IsTurnIn t b → a.place < b.place → a.number < b.number
lower_number t a b one other before =
    omega (
      arith,
      one.before,
      other.before,
      slice_get-below a.cluster.flow.clusters a.cluster.list a.cluster.sids one.sids,
      length-words a.cluster.flow one.requests,
      earlier_count t.flows a.place b.place a.cluster.flow one.flow before,
    )

one_place : (t : Tables) (a b : Turn) → IsTurnIn t a → IsTurnIn t b → a.number ≡ b.number → a.place ≡ b.place
one_place t a b one other same = elim (cases_order a.place b.place) [
  | inl equal ↦ equal
  | inr apart ↦ elim apart [
    | inl before ↦ let lower = lower_number t a b one other before in absurd (omega (arith, lower, same))
    | inr behind ↦ let lower = lower_number t b a other one behind in absurd (omega (arith, lower, same))
  ]
]

pub one_turn : OneTurn
one_turn t a b one other same =
    let place = one_place t a b one other same in
    let found : Some a.cluster.flow ≡ Some b.cluster.flow =
    sym one.flow ∙ ap (slice_get t.flows) place ∙ other.flow in
    let flow : a.cluster.flow ≡ b.cluster.flow = cc in
    let list : a.cluster.list ≡ b.cluster.list =
    omega (arith, one.before, other.before, same, ap (words_before t.flows) place) in
    let held : Some a.cluster.sids ≡ Some b.cluster.sids =
    sym one.sids ∙ ap₂ (λ (f : FlowTable) i. slice_get f.clusters i) flow list ∙ other.sids in
    let sids : a.cluster.sids ≡ b.cluster.sids = cc in
    λ i. record {
      number = same i;
      place = place i;
      cluster = record { flow = flow i; list = list i; sids = sids i };
    }

-- turns as places

number_in : (t : Tables) (u : places.Turn) (turn : Turn) → turn_at t u ≡ Some turn → u.cluster ≡ turn.number
number_in t u turn is = by (slice_get t.flows u.flow) is
  where
    known : (flow : FlowTable) (found : Option (List ℕ)) → option_map (λ sids. record {
      number = u.cluster;
      place = u.flow;
      cluster = record { flow = flow; list = u.list; sids = sids };
    }) found ≡ Some turn → u.cluster ≡ turn.number
    known flow None is = let no : None ≡ Some turn = is in cc
    known flow (Some sids) is =
        let made : Turn = record {
          number = u.cluster;
          place = u.flow;
          cluster = record { flow = flow; list = u.list; sids = sids };
        } in
        let found : Some made ≡ Some turn = is in
        let same : made ≡ turn = cc in
        ap (λ turn. turn.number) same

    by : (found : Option FlowTable) → option_and_then (in_flow u) found ≡ Some turn → u.cluster ≡ turn.number
    by None is = let no : None ≡ Some turn = is in cc
    by (Some flow) is = known flow (slice_get flow.clusters u.list) is

numbers_known : (t : Tables) (us : List places.Turn) (ts : List Turn) → map (turn_at t) us ≡ map Some ts →
    AllByRecursion (IsTurnIn t) ts → AllByRecursion (λ u. u.cluster < length (words_of t)) us
numbers_known t [] ts is all = tt
numbers_known t (u ∷ us) [] is all = let no : turn_at t u ∷ map (turn_at t) us ≡ [] = is in cc
numbers_known t (u ∷ us) (turn ∷ ts) is all =
    let both : turn_at t u ∷ map (turn_at t) us ≡ Some turn ∷ map Some ts = is in
    let first : turn_at t u ≡ Some turn = cc in
    let rest : map (turn_at t) us ≡ map Some ts = cc in (
      subst (λ n. n < length (words_of t)) (sym (number_in t u turn first)) all.0.number,
      numbers_known t us ts rest all.1,
    )

pub config_numbers : (t : Tables) (us : List places.Turn) → map (turn_at t) us ≡ map Some (turns_of t) →
    AllByRecursion (λ u. u.cluster < length (words_of t)) us
config_numbers t us is = numbers_known t us (turns_of t) is (turns_of-turns t)
