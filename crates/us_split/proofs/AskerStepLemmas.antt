-- Who asks, from step to step.
use Rattle.std.proofs.Common.{◌≡◌, ◌≢◌, ℕ, zero, suc, ◌+◌, ◌^◌, ◌==◌, ◌<◌, ◌≤◌, nat_lt, ◌&&◌, Bool, true, false, if◌then◌else◌, List, [], ◌∷◌, ◌++◌, length, set, take, drop, filter, zip, replicate, map, Option, Some, None, slice_get, refl, sym, ap, ap₂, ◌∙◌, subst, inl, inr, eq-eqb, ne_eqb, lt-ltb, le-ltb, ltb-true, get_or-set_same, get_or-set_other, append-nil, add-one, arith}
use Rattle.std.specs.Prelude.{slice_index, slice_index_or}
use Rattle.std.specs.List.{AllByRecursion}
use Rattle.std.specs.List.Sorted.{IsNonDecreasing}
use Rattle.std.proofs.lemmas.Bool.{cases_Bool, cases_eq, cases_lt}
use Rattle.std.proofs.lemmas.List.{get_or_default, get_or_past, length-set, length-replicate, get_or-replicate, set-get_or, take_all, drop_all}
use Rattle.us_flows.specs.Tables.{Tables}
use Rattle.us_flows.specs.Clusters.{turns_of, words_of}
use Rattle.us_flows.specs.Lawful.{AreTables}
use Rattle.us_split.specs.Asking.{Asking, asked_more, asking, asks, more_of, numbers_of, places_from, pending_places, is_pending}
use Rattle.us_split.specs.Requested.{requested_at}
use Rattle.us_split.specs.Askers.{AreAskers, AreBytes, AreOnce, ArePlaces, IsPlaceOf, put_in}
use Rattle.us_split.proofs.AskerLemmas.{filter-places, places-below, places-fewer, places-rise, put-more}
use Rattle.us_split.proofs.RequestedLemmas.{requested-left, requested-more, requested-nothing}
use Rattle.us_split.proofs.TurnNumberLemmas.{AreTurnNumbers, requested-turn, turn_numbers}

abbrev pub IsSmall : ℕ → Type 0
IsSmall bytes = bytes < 2 ^ 62

-- where two tests pass the same numbers, they pass the same places
same_places : (one other : ℕ → Bool) (place : ℕ) (numbers : List ℕ) → ((n : ℕ) → one n ≡ other n) →
    places_from one place numbers ≡ places_from other place numbers
unfolding places_from
same_places one other place [] same = refl
same_places one other place (n ∷ numbers) same =
    let rest = same_places one other (place + 1) numbers same in
    elim (cases_Bool (other n)) [
      | inl t ↦ rw (same n ∙ t, t) (ap (λ at. place ∷ at) rest)
      | inr f ↦ rw (same n ∙ f, f) rest
    ]

-- Before round 0.

none-outstanding : (words n : ℕ) → slice_index (replicate words 0) n ≡ 0
none-outstanding words n = elim (cases_lt n words) [
  | inl within ↦ get_or-replicate words n 0 0 within
  | inr past ↦ get_or_past (replicate words 0) n 0 (omega (arith, past, length-replicate {A = ℕ} words 0))
]

nobody-asks : (words place : ℕ) (numbers : List ℕ) → places_from (asks (replicate words 0)) place numbers ≡ []
unfolding places_from
nobody-asks words place [] = refl
nobody-asks words place (n ∷ numbers) =
    rw (le-ltb 0 (slice_index (replicate words 0) n) (omega (arith, none-outstanding words n)))
    (nobody-asks words (place + 1) numbers)

all-none : (words : ℕ) → AllByRecursion IsSmall (replicate words 0)
all-none zero = tt
all-none (suc words) = let small : 0 < 2 ^ 62 = omega arith in (small, all-none words)

pub askers-new : (t : Tables) (numbers : List ℕ) (places : List (Option ℕ)) (room pending_room : ℕ) → AreTables t →
    numbers ≡ numbers_of (turns_of t) → length places ≡ length (words_of t) →
    ((n : ℕ) → n < length (words_of t) → IsPlaceOf numbers n (slice_index_or places n None)) → length numbers ≤ room →
    length numbers ≤ pending_room →
    AreAskers t numbers places (replicate (length (words_of t)) 0) (replicate (length (words_of t)) 0) [] room pending_room
askers-new t numbers places room pending_room lawful are one_each found enough pending_enough =
    let words : ℕ = length (words_of t) in
    let turns : AreTurnNumbers t = turn_numbers t lawful in
    record {
      words = length-replicate {A = ℕ} words 0;
      of_turns = are;
      turns = subst (λ n. ArePlaces n numbers places) (sym (length-replicate {A = ℕ} words 0)) (record {
        one_each = one_each;
        below = subst (AllByRecursion (λ n. n < words)) (sym are) turns.below;
        once = subst AreOnce (sym are) turns.once;
        found = found;
      });
      bytes = record {
        one_each = refl;
        within = λ n. omega arith;
        range = all-none words;
      };
      requested = requested-nothing (words_of t);
      listed = sym (nobody-asks words 0 numbers);
      room_to_ask = enough;
      room_for_pending = pending_enough;
    }

-- More bytes.

-- the place that is kept of a word
pub kept_place : (words : ℕ) (numbers : List ℕ) (places : List (Option ℕ)) (word : ℕ) (found : Option ℕ) →
    ArePlaces words numbers places → word < words → found ≡ slice_index_or places word found →
    IsPlaceOf numbers word found
kept_place words numbers places word found are below is =
    let same : slice_index_or places word None ≡ found =
    get_or_default places word None found (omega (arith, are.one_each, below)) ∙ sym is in
    subst (IsPlaceOf numbers word) same (are.found word below)

all-set : (P : ℕ → Type 0) (xs : List ℕ) (i x : ℕ) → AllByRecursion P xs → P x → AllByRecursion P (set xs i x)
all-set P [] i x all is = tt
all-set P (y ∷ xs) zero x all is = (is, all.1)
all-set P (y ∷ xs) (suc i) x all is = (all.0, all-set P xs i x all.1 is)

-- what is listed rises,
pub listed-rise : (numbers outstanding list : List ℕ) → list ≡ asking outstanding numbers → IsNonDecreasing list
listed-rise numbers outstanding list is = subst IsNonDecreasing (sym is) (places-rise (asks outstanding) 0 numbers)

-- has places of turns,
pub listed-below : (numbers outstanding list : List ℕ) → list ≡ asking outstanding numbers →
    AllByRecursion (λ at. at < length numbers) list
listed-below numbers outstanding list is =
    subst (AllByRecursion (λ at. at < length numbers)) (sym is)
    (places-below (asks outstanding) 0 (length numbers) numbers (omega arith))

-- and has room for one more where nothing was outstanding
pub listed-fewer : (numbers outstanding list : List ℕ) (place word : ℕ) → list ≡ asking outstanding numbers →
    slice_get numbers place ≡ Some word → slice_index outstanding word ≡ 0 → length list < length numbers
listed-fewer numbers outstanding list place word is at none =
    subst (λ l. length l < length numbers) (sym is)
    (places-fewer (asks outstanding) 0 place word numbers at
    (le-ltb 0 (slice_index outstanding word) (omega (arith, none))))

module _ (outstanding : List ℕ) (word bytes : ℕ) (below : word < length outstanding) (some : bytes ≢ 0) where
  abbrev more : List ℕ
  more = more_of word bytes outstanding

  asks-now : asks more word ≡ true
  asks-now =
      let is : slice_index more word ≡ slice_index outstanding word + bytes =
      get_or-set_same outstanding word (slice_index outstanding word + bytes) 0 below in
      lt-ltb 0 (slice_index more word) (omega (arith, is, some))

  asks-else : (n : ℕ) → n ≢ word → asks more n ≡ asks outstanding n
  asks-else n other =
      ap (λ b. nat_lt 0 b) (get_or-set_other outstanding word n (slice_index outstanding word + bytes) 0 other)

  listed-more : (numbers list next : List ℕ) (place : ℕ) → AreOnce numbers → slice_get numbers place ≡ Some word →
      list ≡ asking outstanding numbers →
      next ≡ (if slice_index outstanding word == 0 then put_in place list else list) → next ≡ asking more numbers
  listed-more numbers list next place once at listed is = elim (cases_eq (slice_index outstanding word) 0) [
    | inl none ↦
        let start : 0 + place ≡ place = omega arith in
        is ∙ ap (λ b. if b then put_in place list else list) (eq-eqb (slice_index outstanding word) 0 none) ∙
        ap (put_in place) listed ∙ ap (λ p. put_in p (asking outstanding numbers)) (sym start) ∙
        put-more (asks outstanding) (asks more) word asks-else 0 place numbers
        (le-ltb 0 (slice_index outstanding word) (omega (arith, none))) asks-now at once
    | inr before ↦
        let asked : asks outstanding word ≡ true =
        lt-ltb 0 (slice_index outstanding word) (omega (arith, before)) in
        let same : (n : ℕ) → asks outstanding n ≡ asks more n = λ n. elim (cases_eq n word) [
          | inl own ↦ ap (asks outstanding) own ∙ asked ∙ sym asks-now ∙ ap (asks more) (sym own)
          | inr other ↦ sym (asks-else n other)
        ] in
        is ∙ ap (λ b. if b then put_in place list else list) (ne_eqb (slice_index outstanding word) 0 before) ∙ listed ∙
        same_places (asks outstanding) (asks more) 0 numbers same
  ]

within-more : (outstanding left : List ℕ) (word bytes n : ℕ) → length left ≡ length outstanding →
    slice_index left n ≤ slice_index outstanding n → slice_index left word ≤ slice_index outstanding word →
    slice_index (more_of word bytes left) n ≤ slice_index (more_of word bytes outstanding) n
within-more outstanding left word bytes n one_each here own = elim (cases_eq n word) [
  | inl same ↦ elim (cases_lt word (length left)) [
    | inl below ↦
        let left_is : slice_index (more_of word bytes left) n ≡ slice_index left word + bytes =
        ap (slice_index (more_of word bytes left)) same ∙
        get_or-set_same left word (slice_index left word + bytes) 0 below in
        let out_is : slice_index (more_of word bytes outstanding) n ≡ slice_index outstanding word + bytes =
        ap (slice_index (more_of word bytes outstanding)) same ∙
        get_or-set_same outstanding word (slice_index outstanding word + bytes) 0 (omega (arith, below, one_each)) in
        omega (arith, left_is, out_is, own)
    | inr past ↦
        let none : slice_index (more_of word bytes left) n ≡ 0 =
        get_or_past (more_of word bytes left) n 0
        (omega (arith, past, same, length-set left word (slice_index left word + bytes))) in
        omega (arith, none)
  ]
  | inr other ↦ omega (
    arith,
    here,
    get_or-set_other left word n (slice_index left word + bytes) 0 other,
    get_or-set_other outstanding word n (slice_index outstanding word + bytes) 0 other,
  )
]

pub askers-more : (t : Tables) (numbers : List ℕ) (places : List (Option ℕ)) (outstanding left list next : List ℕ)
    (room pending_room more_room place word bytes : ℕ) →
    AreAskers t numbers places outstanding left list room pending_room → word < length outstanding →
    slice_get numbers place ≡ Some word → bytes ≢ 0 → slice_index outstanding word + bytes < 2 ^ 62 →
    next ≡ (if slice_index outstanding word == 0 then put_in place list else list) → room ≤ more_room →
    AreAskers t numbers places (more_of word bytes outstanding) (more_of word bytes left) next more_room pending_room
askers-more t numbers places outstanding left list next room pending_room more_room place word bytes are below at some small is enough =
    let more : ℕ = slice_index outstanding word + bytes in
    let long : length outstanding ≡ length (set outstanding word more) = sym (length-set outstanding word more) in
    let own : slice_get (numbers_of (turns_of t)) place ≡ Some word =
    ap (λ ns. slice_get ns place) (sym are.of_turns) ∙ at in
    record {
      words = sym long ∙ are.words;
      of_turns = are.of_turns;
      turns = subst (λ n. ArePlaces n numbers places) long are.turns;
      bytes = record {
        one_each = length-set left word (slice_index left word + bytes) ∙ are.bytes.one_each ∙ long;
        within = λ n. within-more outstanding left word bytes n are.bytes.one_each (are.bytes.within n) (are.bytes.within word);
        range = all-set IsSmall outstanding word more are.bytes.range small;
      };
      requested = requested-more (words_of t) outstanding word bytes are.requested (requested-turn t place word bytes own);
      listed = listed-more outstanding word bytes below some numbers list next place are.turns.once at are.listed is;
      room_to_ask = omega (arith, are.room_to_ask, enough);
      room_for_pending = are.room_for_pending;
    }

-- no bytes more change nothing
pub none-more : (counts : List ℕ) (word bytes : ℕ) → bytes ≡ 0 → more_of word bytes counts ≡ counts
none-more counts word bytes none =
    let same : slice_index counts word + bytes ≡ slice_index counts word = omega (arith, none) in
    ap (set counts word) same ∙ set-get_or counts word 0

-- nor do any that aren't requested
pub asked-none : (word bytes : ℕ) (a : Asking) → requested_at (words_of a.tables) word bytes ≡ 0 → a ≡ asked_more word bytes a
asked-none word bytes a none =
    let more : ℕ = requested_at (words_of a.tables) word bytes in
    ap₂ (λ outstanding left. let b : Asking = record {
      tables = a.tables;
      outstanding = outstanding;
      left = left;
      pending = a.pending;
    } in b) (sym (none-more a.outstanding word more none)) (sym (none-more a.left word more none))

-- A cut, word by word.

abbrev sums : List ℕ → List ℕ → List ℕ
sums counts cut = map (λ pair. pair.0 + pair.1) (zip counts cut)

-- with the first so many of a cut, the others are still to come
abbrev pub walked : ℕ → List ℕ → List ℕ → List ℕ
walked k counts cut = take k counts ++ sums (drop k counts) (drop k cut)

walked-none : (k : ℕ) (cut : List ℕ) → walked k [] cut ≡ []
walked-none zero cut = refl
walked-none (suc k) cut = refl

walked-next : (k : ℕ) (counts cut : List ℕ) → k < length cut →
    walked (suc k) (more_of k (slice_index cut k) counts) cut ≡ walked k counts cut
walked-next k counts [] inside = absurd (omega (arith, inside))
walked-next k [] (b ∷ cut) inside = walked-none (suc k) (b ∷ cut) ∙ sym (walked-none k (b ∷ cut))
walked-next zero (c ∷ counts) (b ∷ cut) inside = refl
walked-next (suc k) (c ∷ counts) (b ∷ cut) inside =
    ap (λ more. c ∷ more) (walked-next k counts cut (omega (arith, inside)))

pub walked-more : (k : ℕ) (counts cut : List ℕ) → k < length cut →
    walked (k + 1) (more_of k (slice_index cut k) counts) cut ≡ walked k counts cut
walked-more k counts cut inside = rw add-one (walked-next k counts cut inside)

pub walked-all : (k : ℕ) (counts cut : List ℕ) → length counts ≡ length cut → length cut ≤ k → counts ≡ walked k counts cut
walked-all k counts cut long past =
    let none : drop k counts ≡ [] = drop_all k counts (omega (arith, long, past)) in
    sym (
    ap (λ rest. take k counts ++ sums rest (drop k cut)) none ∙ append-nil (take k counts) ∙
    take_all k counts (omega (arith, long, past))
    )

-- and so is the room for them
abbrev pub Fits : ℕ × ℕ → Type 0
Fits pair = pair.0 + pair.1 < 2 ^ 62

room-next : (k bytes : ℕ) (counts cut : List ℕ) → k < length cut →
    AllByRecursion Fits (zip (drop k counts) (drop k cut)) →
    AllByRecursion Fits (zip (drop (suc k) (more_of k bytes counts)) (drop (suc k) cut))
room-next k bytes counts [] inside all = absurd (omega (arith, inside))
room-next k bytes [] (b ∷ cut) inside all = tt
room-next zero bytes (c ∷ counts) (b ∷ cut) inside all = all.1
room-next (suc k) bytes (c ∷ counts) (b ∷ cut) inside all = room-next k bytes counts cut (omega (arith, inside)) all

pub room-more : (k bytes : ℕ) (counts cut : List ℕ) → k < length cut →
    AllByRecursion Fits (zip (drop k counts) (drop k cut)) →
    AllByRecursion Fits (zip (drop (k + 1) (more_of k bytes counts)) (drop (k + 1) cut))
room-more k bytes counts cut inside all = rw add-one (room-next k bytes counts cut inside all)

-- which come to the same by their parts
pub same_asking : (a : Asking) (t : Tables) (outstanding left pending : List ℕ) → a.tables ≡ t →
    a.outstanding ≡ outstanding → a.left ≡ left → a.pending ≡ pending →
    a ≡ record { tables = t; outstanding = outstanding; left = left; pending = pending }
same_asking a t outstanding left pending one two three four =
    ap₂ (λ t o. let b : Asking = record { tables = t; outstanding = o; left = a.left; pending = a.pending } in b) one two ∙
    ap₂ (λ l p. let b : Asking = record { tables = t; outstanding = outstanding; left = l; pending = p } in b) three four

-- The end of a round.

-- what is copied over a list is the list
pub copied : (old new : List ℕ) (len : ℕ) → len ≡ length old → length new ≡ length old →
    take len (new ++ drop (length new) old) ≡ new
copied old new len is long =
    ap (λ rest. take len (new ++ rest)) (drop_all (length new) old (omega (arith, long))) ∙
    ap (take len) (append-nil new) ∙ take_all len new (omega (arith, is, long))

asks-then : (outstanding left : List ℕ) → ((n : ℕ) → slice_index left n ≤ slice_index outstanding n) → (n : ℕ) →
    asks left n ≡ true → asks outstanding n ≡ true
asks-then outstanding left within n some =
    lt-ltb 0 (slice_index outstanding n) (omega (arith, ltb-true 0 (slice_index left n) some, within n))

pending-then : (outstanding left : List ℕ) → ((n : ℕ) → slice_index left n ≤ slice_index outstanding n) → (n : ℕ) →
    is_pending outstanding left n ≡ true → asks outstanding n ≡ true
pending-then outstanding left within n both = asks-then outstanding left within n (first (asks left n) _ both)
  where
    first : (a b : Bool) → (a && b) ≡ true → a ≡ true
    first true b is = refl
    first false b is = is

same-rest : (numbers : List ℕ) (i : ℕ) → slice_index numbers (0 + i) ≡ slice_index numbers i
same-rest numbers i = let same : 0 + i ≡ i = omega arith in ap (slice_index numbers) same

pub pending-is : (numbers outstanding left list : List ℕ) → AreBytes outstanding left → list ≡ asking outstanding numbers →
    filter (λ at. is_pending outstanding left (slice_index numbers at)) list ≡ pending_places outstanding left numbers
pending-is numbers outstanding left list bytes is =
    ap (filter (λ at. is_pending outstanding left (slice_index numbers at))) is ∙
    filter-places (asks outstanding) (is_pending outstanding left) (pending-then outstanding left bytes.within) numbers 0 numbers
    (same-rest numbers)

pub small-left : (outstanding left : List ℕ) → AllByRecursion IsSmall outstanding → length left ≡ length outstanding →
    ((n : ℕ) → slice_index left n ≤ slice_index outstanding n) → AllByRecursion IsSmall left
small-left [] [] all long within = tt
small-left [] (l ∷ left) all long within = absurd (omega (arith, long))
small-left (o ∷ outstanding) [] all long within = tt
small-left (o ∷ outstanding) (l ∷ left) all long within =
    let here : l < 2 ^ 62 = omega (arith, within 0, all.0) in
    (here, small-left outstanding left all.1 (omega (arith, long)) (λ n. within (suc n)))

pub askers-settled : (t : Tables) (numbers : List ℕ) (places : List (Option ℕ)) (outstanding left list next : List ℕ)
    (room pending_room more_room more_pending : ℕ) →
    AreAskers t numbers places outstanding left list room pending_room →
    next ≡ filter (λ at. asks left (slice_index numbers at)) list → room ≤ more_room → pending_room ≤ more_pending →
    AreAskers t numbers places left left next more_room more_pending
askers-settled t numbers places outstanding left list next room pending_room more_room more_pending are is enough pending_enough =
    record {
      words = are.bytes.one_each ∙ are.words;
      of_turns = are.of_turns;
      turns = subst (λ n. ArePlaces n numbers places) (sym are.bytes.one_each) are.turns;
      bytes = record {
        one_each = refl;
        within = λ n. omega arith;
        range = small-left outstanding left are.bytes.range are.bytes.one_each are.bytes.within;
      };
      requested = requested-left (words_of t) outstanding left are.requested are.bytes.one_each are.bytes.within;
      listed = is ∙ ap (filter (λ at. asks left (slice_index numbers at))) are.listed ∙
          filter-places (asks outstanding) (asks left) (asks-then outstanding left are.bytes.within) numbers 0 numbers
          (same-rest numbers);
      room_to_ask = omega (arith, are.room_to_ask, enough);
      room_for_pending = omega (arith, are.room_for_pending, pending_enough);
    }
