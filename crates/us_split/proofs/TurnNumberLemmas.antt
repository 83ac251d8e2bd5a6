-- The word of each cluster has one turn in a round, and other words have none.
use Rattle.std.proofs.Common.{◌≡◌, ◌≢◌, ℕ, zero, suc, ◌+◌, ◌==◌, ◌<◌, ◌≤◌, cond, if◌then◌else◌, List, [], ◌∷◌, length, count_by, Some, None, slice_get, refl, sym, ap, ◌∙◌, inl, inr, eq-eqb, ne_eqb, arith}
use Rattle.std.specs.List.{AllByRecursion}
use Rattle.std.specs.Option.{option_map_or}
use Rattle.std.proofs.lemmas.Bool.{cases_Bool, cases_eq}
use Rattle.std.proofs.lemmas.List.{length-map}
use Rattle.std.proofs.lemmas.List.Sums.{sum_by-cons}
use Rattle.us_flows.specs.Tables.{Tables}
use Rattle.us_flows.specs.Clusters.{Cluster, Turn, IsTurnIn, Word, Requests, is_of_cluster, turns_of, words_of}
use Rattle.us_flows.specs.Lawful.{AreTables}
use Rattle.us_flows.proofs.TurnLaws.{turns_are_of_clusters, turns_of-once, turns_of-turns}
use Rattle.us_split.specs.Asking.{numbers_of}
use Rattle.us_split.specs.Requested.{requested_at, requested_by}
use Rattle.us_split.specs.Askers.{AreOnce}
use Rattle.us_split.proofs.TurnAtLemmas.{few_clusters, few_turns}

-- At most one: no number stands twice.

counted : ℕ → List Turn → ℕ
counted n turns = count_by (λ turn. turn.number == n) turns

counted-cons : (n : ℕ) (turn : Turn) (turns : List Turn) →
    counted n (turn ∷ turns) ≡ cond (turn.number == n) 1 0 + counted n turns
unfolding counted
counted-cons n turn turns = sum_by-cons (λ (turn : Turn). cond (turn.number == n) 1 0) turn turns

counted-here : (n : ℕ) (turn : Turn) (turns : List Turn) → turn.number ≡ n →
    counted n (turn ∷ turns) ≡ 1 + counted n turns
counted-here n turn turns same =
    counted-cons n turn turns ∙ ap (λ b. cond b 1 0 + counted n turns) (eq-eqb turn.number n same)

counted-later : (n : ℕ) (turn : Turn) (turns : List Turn) → counted n turns ≤ counted n (turn ∷ turns)
counted-later n turn turns = omega (arith, counted-cons n turn turns)

counted-some : (n i : ℕ) (turns : List Turn) → slice_get (numbers_of turns) i ≡ Some n → 1 ≤ counted n turns
counted-some n i [] at = let no : None ≡ Some n = at in cc
counted-some n zero (turn ∷ turns) at =
    let found : Some turn.number ≡ Some n = at in
    let same : turn.number ≡ n = cc in
    omega (arith, counted-here n turn turns same)
counted-some n (suc i) (turn ∷ turns) at = omega (arith, counted-later n turn turns, counted-some n i turns at)

once_of : (turns : List Turn) → ((n : ℕ) → counted n turns ≤ 1) → AreOnce (numbers_of turns)
once_of [] few one other n at there = let no : None ≡ Some n = at in cc
once_of (turn ∷ turns) few zero zero n at there = refl
once_of (turn ∷ turns) few zero (suc other) n at there =
    let found : Some turn.number ≡ Some n = at in
    let same : turn.number ≡ n = cc in
    absurd (omega (arith, few n, counted-here n turn turns same, counted-some n other turns there))
once_of (turn ∷ turns) few (suc one) zero n at there =
    let found : Some turn.number ≡ Some n = there in
    let same : turn.number ≡ n = cc in
    absurd (omega (arith, few n, counted-here n turn turns same, counted-some n one turns at))
once_of (turn ∷ turns) few (suc one) (suc other) n at there =
    ap suc (once_of turns (λ m. omega (arith, few m, counted-later m turn turns)) one other n at there)

-- One where it is counted.

has_counted : (n : ℕ) (turns : List Turn) → 1 ≤ counted n turns → (i : ℕ) × (slice_get (numbers_of turns) i ≡ Some n)
unfolding counted
has_counted n [] some = absurd (omega (arith, some))
has_counted n (turn ∷ turns) some = elim (cases_eq turn.number n) [
  | inl same ↦ (0, ap Some same)
  | inr other ↦
      let not_here : counted n (turn ∷ turns) ≡ 0 + counted n turns =
      counted-cons n turn turns ∙ ap (λ b. cond b 1 0 + counted n turns) (ne_eqb turn.number n other) in
      let rest = has_counted n turns (omega (arith, some, not_here)) in
      (suc rest.0, rest.1)
]

-- Words.

-- the number of a turn leads to its cluster's word
word_of_turn : (t : Tables) (n i : ℕ) (turns : List Turn) → AllByRecursion (IsTurnIn t) turns →
    slice_get (numbers_of turns) i ≡ Some n → (cluster : Cluster) × (slice_get (words_of t) n ≡ Some (Requests cluster))
word_of_turn t n i [] all at = let no : None ≡ Some n = at in cc
word_of_turn t n zero (turn ∷ turns) all at =
    let found : Some turn.number ≡ Some n = at in
    let same : turn.number ≡ n = cc in
    (turn.cluster, ap (slice_get (words_of t)) (sym same) ∙ all.0.word)
word_of_turn t n (suc i) (turn ∷ turns) all at = word_of_turn t n i turns all.1 at

-- so all that it has is requested,
pub requested-turn : (t : Tables) (place n bytes : ℕ) → slice_get (numbers_of (turns_of t)) place ≡ Some n →
    requested_at (words_of t) n bytes ≡ bytes
requested-turn t place n bytes at =
    let word = word_of_turn t n place (turns_of t) (turns_of-turns t) at in
    ap (λ found. option_map_or (λ word. requested_by word bytes) found 0) word.1

word_at : (words : List Word) (n : ℕ) → n < length words → (word : Word) × (slice_get words n ≡ Some word)
word_at [] n below = absurd (omega (arith, below))
word_at (word ∷ words) zero below = (word, refl)
word_at (word ∷ words) (suc n) below = word_at words n (omega (arith, below))

-- and nothing of what a word without a turn has
pub requested-none : (t : Tables) (n bytes : ℕ) → n < length (words_of t) →
    ((place : ℕ) → slice_get (numbers_of (turns_of t)) place ≢ Some n) → requested_at (words_of t) n bytes ≡ 0
unfolding counted
requested-none t n bytes below none =
    let word = word_at (words_of t) n below in
    let is : requested_at (words_of t) n bytes ≡ requested_by word.0 bytes =
    ap (λ found. option_map_or (λ word. requested_by word bytes) found 0) word.1 in
    let turns : counted n (turns_of t) ≡ (if is_of_cluster word.0 then 1 else 0) =
    turns_are_of_clusters t n word.0 word.1 in
    elim (cases_Bool (is_of_cluster word.0)) [
      | inl t_is ↦
          let one : counted n (turns_of t) ≡ 1 = turns ∙ ap (λ b. if b then 1 else 0) t_is in
          let has = has_counted n (turns_of t) (omega (arith, one)) in
          absurd (none has.0 has.1)
      | inr f_is ↦ is ∙ ap (λ b. if b then bytes else 0) f_is
    ]

-- All of it.

numbers_below : (t : Tables) (turns : List Turn) → AllByRecursion (IsTurnIn t) turns →
    AllByRecursion (λ n. n < length (words_of t)) (numbers_of turns)
numbers_below t [] all = tt
numbers_below t (turn ∷ turns) all = (all.0.number, numbers_below t turns all.1)

pub record AreTurnNumbers (t : Tables) : Type 0 where
  pub few : length (numbers_of (turns_of t)) ≤ 65536
  pub below : AllByRecursion (λ n. n < length (words_of t)) (numbers_of (turns_of t))
  pub once : AreOnce (numbers_of (turns_of t))

pub turn_numbers : (t : Tables) → AreTables t → AreTurnNumbers t
unfolding counted
turn_numbers t lawful = record {
  few = omega (arith, length-map (turns_of t) (λ turn. turn.number), few_turns t, few_clusters t t.flows lawful.flows, lawful.few_flows);
  below = numbers_below t (turns_of t) (turns_of-turns t);
  once = once_of (turns_of t) (turns_of-once t);
}
