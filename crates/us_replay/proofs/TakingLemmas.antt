-- Taking: the words of a round's asks are swapped one after another, and then all that was submitted was taken.
use Rattle.std.proofs.Common.{◌≡◌, ◌≢◌, ℕ, ◌+◌, ◌^◌, ◌<◌, ◌≤◌, List, [], ◌∷◌, ◌++◌, length, map, take, drop, get_or, set, replicate, slice_index, refl, ap, sym, ◌∙◌, inl, inr, arith}
use Rattle.std.specs.List.{AllByRecursion}
use Rattle.std.proofs.lemmas.Bool.{cases_eq, cases_lt}
use Rattle.std.proofs.lemmas.List.{append-nil, append_assoc, drop_all, drop_more, get_or_default, get_or-set_same, get_or-set_other, length-replicate, length-set, map-append, take_all, take_more}
use Rattle.us_slots.specs.Lists.{added}
use Rattle.us_intake.specs.Seats.{Seat, IsSeat, IsWhole, seat_after_take}
use Rattle.us_intake.proofs.TallyLemmas.{index-added, index-empty, index-past, index_le_sum, length-added, same_tally}
use Rattle.us_output.proofs.PartLemmas.{all_at}
use Rattle.us_requests.specs.declared.asks.Ask.{Ask}
use Rattle.us_requests.specs.Cuts.{asked, cut_of}
use Rattle.us_replay.specs.Collecting.{IsDue, IsTold, seat_after_takes}
use Rattle.us_replay.proofs.CutLemmas.{asked-else, index-cut, length-cut}
use Rattle.us_replay.proofs.CollectingLemmas.{added-empty, added-raised, added-same}

-- the words that asks name
abbrev named : List Ask → List ℕ
named asks = map (λ (ask : Ask). ask.cluster) asks

-- the words of the asks before `at` were swapped, the cut has what they held, and of each word of which no other asks, all
-- that was submitted was taken
pub record AreTaken (old seat : Seat) (asks : List Ask) (at : ℕ) (cut : List ℕ) : Type 0 where
  pub same : seat ≡ record old { taken = added old.taken cut; swapped = old.swapped ++ named (take at asks) }
  pub row : length cut ≡ old.intake.clusters
  pub even : (word : ℕ) → asked (drop at asks) word ≡ 0 → slice_index seat.taken word ≡ slice_index seat.submitted word

not-cut : (n : ℕ) (asks : List Ask) (word : ℕ) → asked asks word ≡ 0 → slice_index (cut_of n asks) word ≡ 0
not-cut n asks word none =
    elim (cases_lt word n) [
      | inl lt ↦ index-cut n asks word lt ∙ none
      | inr past ↦ index-past (cut_of n asks) word (omega (arith, length-cut n asks, past))
    ]

-- a word that none of the asks behind one names, and that one doesn't either
not-named : (asks : List Ask) (at : ℕ) (d : Ask) (word : ℕ) → at < length asks → (get_or asks at d).cluster ≢ word →
    asked (drop (at + 1) asks) word ≡ 0 → asked (drop at asks) word ≡ 0
not-named asks at d word inside other none =
    ap (λ l. asked l word) (drop_more asks at d inside) ∙ asked-else (get_or asks at d) (drop (at + 1) asks) word other ∙ none

-- A cut has something only of words that its asks name,
pub cut-is-told : (n : ℕ) (asks : List Ask) (cut : List ℕ) → AllByRecursion (λ ask. ask.cluster < n) asks →
    cut ≡ cut_of n asks → IsTold asks cut
cut-is-told n asks cut known is =
    rw is (record { known = rw (length-cut n asks) known; only = λ word none. not-cut n asks word none })

-- and so has a clear one.
pub clear-is-told : (n : ℕ) (asks : List Ask) (cut : List ℕ) → AllByRecursion (λ ask. ask.cluster < n) asks →
    cut ≡ replicate n 0 → IsTold asks cut
clear-is-told n asks cut known is =
    rw is (record { known = rw (length-replicate {A = ℕ} n 0) known; only = λ word _. index-empty n word })

-- The words of the asks before `at` were cleared: only words that the others name have something.
pub record AreCleared (n : ℕ) (asks : List Ask) (at : ℕ) (cut : List ℕ) : Type 0 where
  pub row : length cut ≡ n
  pub only : (word : ℕ) → asked (drop at asks) word ≡ 0 → slice_index cut word ≡ 0

pub cleared-more : (n : ℕ) (asks : List Ask) (at place : ℕ) (cut : List ℕ) (d : Ask) → AreCleared n asks at cut →
    at < length asks → place ≡ (get_or asks at d).cluster → place < n → AreCleared n asks (at + 1) (set cut place 0)
cleared-more n asks at place cut d so_far inside is there =
    record {
      row = length-set cut place 0 ∙ so_far.row;
      only = λ word none. elim (cases_eq word place) [
        | inl e ↦ ap (slice_index (set cut place 0)) e ∙ get_or-set_same cut place 0 0 (omega (arith, there, so_far.row))
        | inr apart ↦
            get_or-set_other cut place word 0 0 apart ∙
            so_far.only word (not-named asks at d word inside (λ e. apart (sym (is ∙ e))) none)
      ];
    }

pub all-cleared : (n : ℕ) (asks : List Ask) (at : ℕ) (cut : List ℕ) → AreCleared n asks at cut → length asks ≤ at →
    cut ≡ replicate n 0
all-cleared n asks at cut done end =
    same_tally cut (replicate n 0) (done.row ∙ sym (length-replicate n 0))
    (λ word lt. done.only word (ap (λ l. asked l word) (drop_all at asks end)) ∙ sym (index-empty n word))

-- before the first ask
pub none-taken : (old : Seat) (asks : List Ask) (cut : List ℕ) → IsDue old asks →
    cut ≡ replicate old.intake.clusters 0 → AreTaken old old asks 0 cut
none-taken old asks cut due nothing =
    let n : ℕ = old.intake.clusters in
    record {
      same = rw (nothing, added-empty n old.taken due.row, append-nil old.swapped) refl;
      row = ap length nothing ∙ length-replicate n 0;
      even = λ word none.
          let submitted : slice_index old.submitted word ≡ slice_index old.taken word + slice_index (cut_of n asks) word =
          ap (λ l. slice_index l word) due.due ∙ index-added old.taken (cut_of n asks) word in
          omega (arith, submitted, not-cut n asks word none);
    }

-- The word of one ask more: it is `place` in the code, and the cut has `held` of it before.
module _ (old seat after : Seat) (asks : List Ask) (at place word held found : ℕ) (cut : List ℕ) (d : Ask) (due : IsDue old asks)
    (so_far : AreTaken old seat asks at cut) (inside : at < length asks) (is : word ≡ (get_or asks at d).cluster)
    (place_is : place ≡ word) (held_is : held ≡ get_or cut place held) (after_is : after ≡ seat_after_take seat word found) where
  there : word < old.intake.clusters
  there = omega (arith, is, all_at (λ (ask : Ask). ask.cluster < old.intake.clusters) asks at d due.known inside)

  read : slice_index cut word ≡ held
  read =
      ap (slice_index cut) (sym place_is) ∙
      get_or_default cut place 0 held (omega (arith, place_is, there, so_far.row)) ∙ sym held_is

  -- it fits
  pub taken-fits : IsSeat after → held + found < 2 ^ 62
  taken-fits known =
      let row : length seat.taken ≡ old.intake.clusters =
      ap (λ (s : Seat). length s.taken) so_far.same ∙ length-added old.taken cut (due.row ∙ sym so_far.row) ∙ due.row in
      omega (
        arith,
        read,
        ap (λ (s : Seat). slice_index s.taken word) after_is,
        get_or-set_same seat.taken word (slice_index seat.taken word + found) 0 (omega (arith, row, there)),
        ap (λ (s : Seat). slice_index s.taken word) so_far.same,
        index-added old.taken cut word,
        index_le_sum after.taken word,
        known.taken_within,
        known.intake.small,
      )

  swapped : (old.swapped ++ named (take at asks)) ++ word ∷ [] ≡ old.swapped ++ named (take (at + 1) asks)
  swapped =
      let ask : Ask = get_or asks at d in
      rw (take_more asks at d inside, map-append (λ (ask : Ask). ask.cluster) (take at asks) (ask ∷ []), ← is)
      (append_assoc old.swapped (named (take at asks)) (word ∷ []))

  -- nothing changes with another word
  even-else : (other : ℕ) → other ≢ word → asked (drop (at + 1) asks) other ≡ 0 →
      slice_index after.taken other ≡ slice_index after.submitted other
  even-else other apart none =
      let taken : slice_index after.taken other ≡ slice_index seat.taken other =
      ap (λ (s : Seat). slice_index s.taken other) after_is ∙
      get_or-set_other seat.taken word other (slice_index seat.taken word + found) 0 apart in
      let submitted : slice_index after.submitted other ≡ slice_index seat.submitted other =
      ap (λ (s : Seat). slice_index s.submitted other) after_is in
      taken ∙ so_far.even other (not-named asks at d other inside (λ e. apart (sym (is ∙ e))) none) ∙ sym submitted

  pub taken-more : (IsWhole seat → slice_index after.taken word ≡ slice_index after.submitted word) →
      AreTaken old after asks (at + 1) (set cut place (held + found))
  taken-more whole =
      let more =
      added-raised old.taken cut word found (omega (arith, there, due.row)) (omega (arith, there, so_far.row)) in
      rw (place_is, ← read) (record {
        same = rw (after_is, so_far.same, more, swapped) refl;
        row = length-set cut word (slice_index cut word + found) ∙ so_far.row;
        even = λ other none. elim (cases_eq other word) [
          | inl e ↦ rw e (whole (rw so_far.same due.whole))
          | inr apart ↦ even-else other apart none
        ];
      })

-- after the last ask
pub all-taken : (old seat : Seat) (asks : List Ask) (at : ℕ) (cut : List ℕ) → IsDue old asks →
    AreTaken old seat asks at cut → length asks ≤ at →
    (cut ≡ cut_of old.intake.clusters asks) × (seat ≡ seat_after_takes old asks)
all-taken old seat asks at cut due done end =
    let n : ℕ = old.intake.clusters in
    let taken : seat.taken ≡ added old.taken cut = ap (λ (s : Seat). s.taken) done.same in
    let submitted : seat.submitted ≡ old.submitted = ap (λ (s : Seat). s.submitted) done.same in
    let taken_row : length seat.taken ≡ n =
    ap length taken ∙ length-added old.taken cut (due.row ∙ sym done.row) ∙ due.row in
    let submitted_row : length seat.submitted ≡ n =
    ap length (submitted ∙ due.due) ∙ length-added old.taken (cut_of n asks) (due.row ∙ sym (length-cut n asks)) ∙ due.row in
    let even : seat.taken ≡ seat.submitted =
    same_tally seat.taken seat.submitted (taken_row ∙ sym submitted_row)
    (λ word lt. done.even word (ap (λ l. asked l word) (drop_all at asks end))) in
    let all : added old.taken cut ≡ old.submitted = sym taken ∙ even ∙ submitted in (
      added-same old.taken cut (cut_of n asks) (done.row ∙ sym (length-cut n asks)) (all ∙ due.due),
      rw (done.same, all, take_all at asks end) refl,
    )
