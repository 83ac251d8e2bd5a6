-- The schedule over a log with one more cut; what is outstanding was logged.
use Rattle.std.proofs.Common.{◌≡◌, ℕ, zero, suc, ◌+◌, ◌*◌, ◌^◌, ◌<◌, ◌≤◌, List, [], ◌∷◌, ◌++◌, length, map, sum, slice_index, nat_le, true, refl, ap, ◌∙◌, inl, inr, arith}
use Rattle.std.specs.List.{AllByRecursion, zip}
use Rattle.std.proofs.lemmas.Bool.{and_parts, cases_Bool, leb-true}
use Rattle.std.proofs.lemmas.Nat.{mul-le}
use Rattle.std.proofs.lemmas.List.{map-append}
use Rattle.std.proofs.lemmas.List.Sums.{sum_by-cons}
use Rattle.us_flows.specs.Tables.{Tables, max_run_ticks, rounds_fit}
use Rattle.us_flows.specs.Clusters.{Word, is_of_cluster, words_of}
use Rattle.us_slots.specs.Lists.{added}
use Rattle.us_intake.proofs.TallyLemmas.{index-added, index-empty, index_le_sum}
use Rattle.us_split.specs.Requested.{requested_by, requested_in, with_cut}
use Rattle.us_channel.specs.Placements.{PlacedClaim}
use Rattle.us_round.specs.Rounds.{State, all_grants, begun, builds_of, final, uncredited, opening, round_from, round_of, schedule}
use Rattle.us_output.specs.Outputs.{out_of}
use Rattle.us_live.specs.Lives.{logged, rounds_of}

-- One more cut.

schedule-more : (s : State) (log : List (List ℕ)) (cut : List ℕ) →
    schedule s (log ++ cut ∷ []) ≡ schedule s log ++ (round_of (final s log) cut).scheduled ∷ []
unfolding schedule final
schedule-more s [] cut = refl
schedule-more s (first ∷ log) cut =
    ap (λ rest. (round_of s first).scheduled ∷ rest) (schedule-more (round_of s first).state log cut)

pub final-more : (s : State) (log : List (List ℕ)) (cut : List ℕ) →
    final s (log ++ cut ∷ []) ≡ (round_of (final s log) cut).state
unfolding final
final-more s [] cut = refl
final-more s (first ∷ log) cut = final-more (round_of s first).state log cut

-- its round comes behind those of the log
pub rounds-more : (t : Tables) (log : List (List ℕ)) (cut : List ℕ) →
    rounds_of t (log ++ cut ∷ []) ≡ rounds_of t log ++ out_of t (round_of (final (opening t) log) cut).scheduled ∷ []
rounds-more t log cut =
    ap (λ rounds. map (out_of t) rounds) (schedule-more (opening t) log cut)
    ∙ map-append (out_of t) (schedule (opening t) log) ((round_of (final (opening t) log) cut).scheduled ∷ [])

-- What a round makes of a state.

index-left : (grants : List PlacedClaim) (number : ℕ) (outstanding : List ℕ) (cluster : ℕ) →
    slice_index (uncredited grants number outstanding) cluster ≤ slice_index outstanding cluster
index-left grants number [] cluster = omega arith
index-left grants number (bytes ∷ more) zero = omega arith
index-left grants number (bytes ∷ more) (suc cluster) = index-left grants (number + 1) more cluster

-- of what a word has no more is requested
requested-few : (word : Word) (bytes : ℕ) → requested_by word bytes ≤ bytes
requested-few word bytes = elim (cases_Bool (is_of_cluster word)) [
  | inl own ↦ rw own (omega arith)
  | inr other ↦ rw other (omega arith)
]

index-asked : (words : List Word) (outstanding cut : List ℕ) (number : ℕ) →
    slice_index (map (λ pair. pair.0 + pair.1) (zip outstanding (requested_in words cut))) number
    ≤ slice_index outstanding number + slice_index cut number
index-asked words [] cut number = omega arith
index-asked [] (bytes ∷ more) cut number = omega arith
index-asked (word ∷ words) (bytes ∷ more) [] number = omega arith
index-asked (word ∷ words) (bytes ∷ more) (newly ∷ cut) zero = omega (arith, requested-few word newly)
index-asked (word ∷ words) (bytes ∷ more) (newly ∷ cut) (suc number) = index-asked words more cut number

-- as far as the next one needs it
pub record After (state : State) (cut : List ℕ) (next : State) : Type 0 where
  pub tables_are : next.tables ≡ state.tables
  pub round_is : next.round ≡ state.round + 1
  pub asked_for : (cluster : ℕ) →
      slice_index next.outstanding cluster ≤ slice_index state.outstanding cluster + slice_index cut cluster

pub after : (state : State) (cut : List ℕ) → After state cut (round_of state cut).state
unfolding round_of round_from
after state cut =
    let now : List ℕ = with_cut state.tables state.outstanding cut in
    let grants : List PlacedClaim = all_grants (builds_of (begun state cut)) in
    record {
      tables_are = refl;
      round_is = refl;
      asked_for = λ cluster. omega (
        arith,
        index-left grants 0 now cluster,
        index-asked (words_of state.tables) state.outstanding cut cluster,
      );
    }

-- What the rounds of a log make of it.

final-tables : (s : State) (log : List (List ℕ)) → (final s log).tables ≡ s.tables
unfolding final
final-tables s [] = refl
final-tables s (cut ∷ log) = final-tables (round_of s cut).state log ∙ (after s cut).tables_are

final-round : (s : State) (log : List (List ℕ)) → (final s log).round ≡ s.round + length log
unfolding final
final-round s [] = omega arith
final-round s (cut ∷ log) = omega (arith, final-round (round_of s cut).state log, (after s cut).round_is)

final-outstanding : (s : State) (log : List (List ℕ)) (cluster : ℕ) →
    slice_index (final s log).outstanding cluster ≤ slice_index s.outstanding cluster + logged log cluster
unfolding final
final-outstanding s [] cluster = omega arith
final-outstanding s (cut ∷ log) cluster =
    omega (
      arith,
      final-outstanding (round_of s cut).state log cluster,
      (after s cut).asked_for cluster,
      sum_by-cons (λ cut. slice_index cut cluster) cut log,
    )

-- of a state that the rounds of a log leave
pub round-logged : (t : Tables) (log : List (List ℕ)) (state : State) → state ≡ final (opening t) log →
    state.round ≡ length log
round-logged t log state is = omega (arith, ap (λ s. s.round) is, final-round (opening t) log)

pub outstanding-logged : (t : Tables) (log : List (List ℕ)) (state : State) → state ≡ final (opening t) log →
    (cluster : ℕ) → slice_index state.outstanding cluster ≤ logged log cluster
outstanding-logged t log state is cluster =
    omega (
      arith,
      ap (λ s. slice_index s.outstanding cluster) is,
      final-outstanding (opening t) log cluster,
      index-empty (length (words_of t)) cluster,
    )

-- Conditions of a round.

-- the rounds of a run keep their ends
pub time-next : (t : Tables) (rounds k : ℕ) → rounds_fit t rounds ≡ true → k < rounds →
    (k + 1) * t.round_ticks ≤ max_run_ticks
time-next t rounds k fits below =
    let all = leb-true (rounds * t.round_ticks) max_run_ticks
    (and_parts (nat_le 1 rounds) (nat_le (rounds * t.round_ticks) max_run_ticks) fits).1 in
    omega (arith, all, mul-le (k + 1) t.round_ticks rounds t.round_ticks (omega (arith, below)) (omega arith))

pairs-below : (bound : ℕ) (xs ys : List ℕ) → ((k : ℕ) → slice_index xs k + slice_index ys k < bound) →
    AllByRecursion (λ pair. pair.0 + pair.1 < bound) (zip xs ys)
pairs-below bound [] ys below = tt
pairs-below bound (x ∷ xs) [] below = tt
pairs-below bound (x ∷ xs) (y ∷ ys) below = (below 0, pairs-below bound xs ys (λ k. below (suc k)))

-- what is outstanding was taken before, and together with what is taken now it is no more than may be submitted
pub room : (outstanding taken cut : List ℕ) → ((k : ℕ) → slice_index outstanding k ≤ slice_index taken k) →
    sum (added taken cut) < 2 ^ 62 → AllByRecursion (λ pair. pair.0 + pair.1 < 2 ^ 62) (zip outstanding cut)
room outstanding taken cut covered small =
    pairs-below (2 ^ 62) outstanding cut
    (λ k. omega (arith, covered k, index-added taken cut k, index_le_sum (added taken cut) k, small))
