-- From a tally before the first step to a round.
use Rattle.std.proofs.Common.{◌≡◌, ℕ, zero, suc, ◌+◌, ◌^◌, ◌<◌, ◌≤◌, ◌==◌, Bool, true, false, List, [], ◌∷◌, length, map, replicate, get_or, slice_index, slice_set, refl, ap, sym, ◌∙◌, inl, inr, arith}
use Rattle.std.specs.Prelude.{filter, zip}
use Rattle.std.specs.List.{AllByRecursion, range_with_len}
use Rattle.std.proofs.lemmas.Bool.{cases_Bool, cases_lt, eqb-true}
use Rattle.std.proofs.lemmas.List.{length-set, get_or-replicate, get_or_past, length-replicate}
use Rattle.std.proofs.lemmas.List.Sums.{sum_by-cons}
use Rattle.us_requests.specs.declared.asks.Ask.{Ask}
use Rattle.us_requests.specs.Cuts as requests
use Rattle.us_steps.specs.declared.steps.Step.{Step}
use Rattle.us_steps.specs.declared.steps.Step.TheVariants as step
use Rattle.us_steps.specs.Steps.{bytes_for, added_by, adds, takes, ahead, behind, IsThere, IsComplete, cut_at, left_at, cut_of, left_of}
use Rattle.us_steps.specs.Tallies.{Tally, opening_tally, IsReady, IsSized, unadded}
use Rattle.std.proofs.lemmas.List.FromFn.{length-map-range_with_len, get_or-map-range_with_len}
use Rattle.us_steps.proofs.CountLemmas.{count, total, totalled, complete-counted}
use Rattle.us_steps.proofs.FlagLemmas.{unset, unset-fresh, set-counted, set-over, none-set}
use Rattle.us_steps.proofs.TallyLemmas.{unadded-set}
use Rattle.us_steps.proofs.CutLemmas.{IsEnd, cut_to, left_to, none-unadded}

-- the bytes of a cluster's rows, counted one by one
pub asked-total : (asks : List Ask) (q : ℕ) → requests.asked asks q ≡ total (bytes_for q) asks
asked-total [] q = refl
asked-total (ask ∷ asks) q = elim (cases_Bool (ask.cluster == q)) [
  | inl same ↦
      rw same (omega (
        arith,
        sum_by-cons (λ (a : Ask). a.bytes) ask (filter (λ a. a.cluster == q) asks),
        asked-total asks q,
      ))
  | inr other ↦ rw other (omega (arith, asked-total asks q))
]

pub unadded-fresh : (q : ℕ) (asks : List Ask) → unadded q asks (replicate (length asks) false) ≡ total (bytes_for q) asks
unadded-fresh q [] = refl
unadded-fresh q (ask ∷ asks) = ap (λ n. bytes_for q ask + n) (unadded-fresh q asks)

-- no row is of a cluster that isn't there
pub none-past : (q n : ℕ) (asks : List Ask) → AllByRecursion (λ ask. ask.cluster < n) asks → n ≤ q →
    total (bytes_for q) asks ≡ 0
none-past q n [] all past = refl
none-past q n (ask ∷ asks) all past = elim (cases_Bool (ask.cluster == q)) [
  | inl same ↦ absurd (omega (arith, eqb-true ask.cluster q same, all.0, past))
  | inr other ↦ rw other (omega (arith, none-past q n asks all.1 past))
]

pub zeros : (n q : ℕ) → slice_index (replicate n 0) q ≡ 0
zeros zero q = refl
zeros (suc n) zero = refl
zeros (suc n) (suc q) = zeros n q

pub opening-sized : (words : List ℕ) (asks : List Ask) (channels : ℕ) →
    AllByRecursion (λ ask. ask.cluster < length words) asks →
    IsSized asks (opening_tally words (length asks) channels)
opening-sized words asks channels known = record {
  added = length-replicate (length asks) false;
  clusters = known;
  cut = length-replicate (length words) 0;
  taken = length-replicate (length words) false;
  built = refl;
}

pub opening-ready : (words : List ℕ) (asks : List Ask) (channels : ℕ) →
    AllByRecursion (λ ask. ask.cluster < length words) asks → ((q : ℕ) → q < length words → slice_index words q + requests.asked asks q < 2 ^ 62) →
    IsReady asks (opening_tally words (length asks) channels)
opening-ready words asks channels known small = record {
  sized = opening-sized words asks channels known;
  room = λ q. elim (cases_lt q (length words)) [
    | inl below ↦
        omega (arith, small q below, asked-total asks q, unadded-fresh q asks, zeros (length words) q)
    | inr past ↦
        omega (
          arith,
          none-past q (length words) asks known past,
          unadded-fresh q asks,
          zeros (length words) q,
          get_or_past words q 0 past,
        )
  ];
}

-- a list by its places
mapped : (f : ℕ → ℕ) (a : ℕ) (xs : List ℕ) → ((q : ℕ) → q < length xs → slice_index xs q ≡ f (a + q)) →
    xs ≡ map f (range_with_len a (length xs))
mapped f a [] each = refl
mapped f a (x ∷ xs) each =
    let start : a + 0 ≡ a = omega arith in
    let first : x ≡ f a = each 0 (omega arith) ∙ ap f start in
    let next : (q : ℕ) → a + suc q ≡ (a + 1) + q = λ q. omega arith in
    let rest : xs ≡ map f (range_with_len (a + 1) (length xs)) =
    mapped f (a + 1) xs (λ q below. each (suc q) (omega (arith, below)) ∙ ap f (next q)) in
    ap (λ y. y ∷ xs) first ∙ ap (λ ys. f a ∷ ys) rest

pub mapped-at : (f : ℕ → ℕ) (xs : List ℕ) (n : ℕ) → length xs ≡ n → ((q : ℕ) → q < n → slice_index xs q ≡ f q) →
    xs ≡ map f (range_with_len 0 n)
mapped-at f xs n long each =
    let by : xs ≡ map f (range_with_len 0 (length xs)) =
    mapped f 0 xs (λ q below. each q (omega (arith, below, long)) ∙ ap f (omega arith)) in
    by ∙ ap (λ m. map f (range_with_len 0 m)) long

-- What stands after all steps of a complete list.

not-taken : (words : List ℕ) (q : ℕ) → q < length words → get_or (replicate (length words) false) q true ≡ false
not-taken words q below = get_or-replicate (length words) q false true below

-- the cut,
pub end-cut : (asks : List Ask) (words : List ℕ) (channels : ℕ) (end : Tally) (steps : List Step) →
    IsEnd asks (opening_tally words (length asks) channels) end steps → end.cut ≡ cut_of words asks steps
unfolding cut_of
end-cut asks words channels end steps is =
    mapped-at (cut_at words asks steps) end.cut (length words) (is.long ∙ is.same) (λ q below.
    let at : cut_to asks (opening_tally words (length asks) channels) steps q ≡ cut_at words asks steps q =
    rw (not-taken words q below)
    (omega (arith, zeros (length words) q, totalled (added_by asks q) (ahead (takes q) steps))) in
    is.cut q ∙ at)

-- what is left in the words,
pub end-words : (asks : List Ask) (words : List ℕ) (channels : ℕ) (end : Tally) (steps : List Step) →
    IsEnd asks (opening_tally words (length asks) channels) end steps → end.words ≡ left_of words asks steps
unfolding left_of
end-words asks words channels end steps is =
    mapped-at (left_at asks steps) end.words (length words) is.same (λ q below.
    let at : left_to asks (opening_tally words (length asks) channels) steps q ≡ left_at asks steps q =
    rw (not-taken words q below) (sym (totalled (added_by asks q) (behind (takes q) steps))) in
    is.words q ∙ at)

-- All rows of a complete list are added.

pub all-added : (asks : List Ask) (flags : List Bool) (steps : List Step) (words channels q : ℕ) →
    length flags ≡ length asks → AllByRecursion (IsThere (length asks) words channels) steps →
    ((r : ℕ) → r < length asks → count (adds r) steps ≡ unset flags r) →
    total (added_by asks q) steps ≡ unadded q asks flags
all-added asks flags [] words channels q long there each =
    sym (none-unadded q asks flags (none-set flags (λ i below. each i (omega (arith, below, long)))))
all-added asks flags (step.Add row seat ∷ steps) words channels q long there each = elim (cases_Bool (get_or flags row true)) [
  | inl full ↦ absurd (set-over flags row (count (adds row) steps) full (each row there.0))
  | inr clear ↦
      let rest : total (added_by asks q) steps ≡ unadded q asks (slice_set flags row true) =
      all-added asks (slice_set flags row true) steps words channels q (length-set flags row true ∙ long) there.1
      (λ r below. set-counted flags row r (count (adds r) steps) clear (each r below)) in
      omega (arith, rest, unadded-set q asks flags row long clear)
]
all-added asks flags (step.Take word seat ∷ steps) words channels q long there each =
    omega (arith, all-added asks flags steps words channels q long there.1 each)
all-added asks flags (step.Open channel ∷ steps) words channels q long there each =
    omega (arith, all-added asks flags steps words channels q long there.1 each)
all-added asks flags (step.Built channel ∷ steps) words channels q long there each =
    omega (arith, all-added asks flags steps words channels q long there.1 each)

-- before or after the Take, which adds nothing
parts-total : (asks : List Ask) (q : ℕ) (steps : List Step) →
    total (added_by asks q) (ahead (takes q) steps) + total (added_by asks q) (behind (takes q) steps)
    ≡ total (added_by asks q) steps
parts-total asks q [] = refl
parts-total asks q (step.Add row seat ∷ steps) = omega (arith, parts-total asks q steps)
parts-total asks q (step.Take word seat ∷ steps) = elim (cases_Bool (word == q)) [
  | inl same ↦ rw same (omega arith)
  | inr other ↦ rw other (omega (arith, parts-total asks q steps))
]
parts-total asks q (step.Open channel ∷ steps) = omega (arith, parts-total asks q steps)
parts-total asks q (step.Built channel ∷ steps) = omega (arith, parts-total asks q steps)

at-mapped : (f : ℕ → ℕ) (n q : ℕ) → q < n → slice_index (map f (range_with_len 0 n)) q ≡ f q
at-mapped f n q below = get_or-map-range_with_len f 0 n q q 0 below (omega arith)

-- the cut and what is left are what was there, and all rows
pub conserved : (asks : List Ask) (words : List ℕ) (channels : ℕ) (steps : List Step) (q : ℕ) →
    IsComplete (length asks) (length words) channels steps → q < length words →
    slice_index (cut_of words asks steps) q + slice_index (left_of words asks steps) q
    ≡ slice_index words q + requests.asked asks q
unfolding cut_of left_of
conserved asks words channels steps q all below =
    let every : total (added_by asks q) steps ≡ unadded q asks (replicate (length asks) false) =
    all-added asks (replicate (length asks) false) steps (length words) channels q (length-replicate (length asks) false)
    all.there (λ r below. (complete-counted all).added r below ∙ sym (unset-fresh (length asks) r below)) in
    omega (
      arith,
      every,
      parts-total asks q steps,
      totalled (added_by asks q) (ahead (takes q) steps),
      totalled (added_by asks q) (behind (takes q) steps),
      at-mapped (cut_at words asks steps) (length words) q below,
      at-mapped (left_at asks steps) (length words) q below,
      asked-total asks q,
      unadded-fresh q asks,
    )

pub cut-long : (asks : List Ask) (words : List ℕ) (steps : List Step) → length (cut_of words asks steps) ≡ length words
unfolding cut_of
cut-long asks words steps = length-map-range_with_len (cut_at words asks steps) 0 (length words)

pub left-long : (asks : List Ask) (words : List ℕ) (steps : List Step) → length (left_of words asks steps) ≡ length words
unfolding left_of
left-long asks words steps = length-map-range_with_len (left_at asks steps) 0 (length words)

zipped : (os cs : List ℕ) → ((q : ℕ) → q < length cs → slice_index os q + slice_index cs q < 2 ^ 62) →
    AllByRecursion (λ pair. pair.0 + pair.1 < 2 ^ 62) (zip os cs)
zipped [] cs each = tt
zipped (o ∷ os) [] each = tt
zipped (o ∷ os) (c ∷ cs) each =
    (each 0 (omega arith), zipped os cs (λ q below. each (suc q) (omega (arith, below))))

-- so a cut has room beside what is outstanding
pub cut-room : (outstanding words : List ℕ) (asks : List Ask) (channels : ℕ) (steps : List Step) →
    ((q : ℕ) → q < length words → slice_index outstanding q + (slice_index words q + requests.asked asks q) < 2 ^ 62) →
    IsComplete (length asks) (length words) channels steps →
    AllByRecursion (λ pair. pair.0 + pair.1 < 2 ^ 62) (zip outstanding (cut_of words asks steps))
cut-room outstanding words asks channels steps small all =
    zipped outstanding (cut_of words asks steps) (λ q below.
    let inside : q < length words = omega (arith, below, cut-long asks words steps) in
    omega (arith, small q inside, conserved asks words channels steps q all inside))
