-- A cut, cluster by cluster.
use Rattle.std.proofs.Common.{◌≡◌, ◌≢◌, ℕ, ◌+◌, ◌<◌, ◌≤◌, List, [], ◌∷◌, ◌++◌, length, set, take, slice_index, ap, sym, subst, ◌∙◌, inl, inr, arith, add-one, take_all, length-set}
use Rattle.std.specs.List.{range_with_len}
use Rattle.std.proofs.lemmas.Bool.{cases_eq, cases_lt}
use Rattle.std.proofs.lemmas.List.{get_or-set_other, append-nil, append_assoc, length-take-le, map-id}
use Rattle.std.proofs.lemmas.List.FromFn.{map-range_with_len_more}
use Rattle.us_slots.specs.Lists.{added}
use Rattle.us_intake.specs.Seats.{Seat, seat_after_take, seat_after_cut, IsWhole, IsSeat}
use Rattle.us_intake.proofs.TallyLemmas.{added-nil, raised-added, index-past, same_tally}

-- so many numbers from 0 on, and the next one
range-more : (n : ℕ) → range_with_len 0 (n + 1) ≡ range_with_len 0 n ++ n ∷ []
range-more n =
    sym (map-id (range_with_len 0 (n + 1))) ∙ map-range_with_len_more (λ (i : ℕ). i) 0 n n (omega arith)
    ∙ ap (λ l. l ++ n ∷ []) (map-id (range_with_len 0 n))

-- what the words before `at` held was taken
pub record CutTo (old seat : Seat) (at : ℕ) (cuts : List ℕ) : Type 0 where
  pub same : seat ≡ seat_after_cut old (take at cuts)
  pub old_known : IsSeat old
  pub known : IsSeat seat
  pub least : (k : ℕ) → k < at → slice_index seat.submitted k ≤ slice_index seat.taken k
  pub whole : IsWhole old → (k : ℕ) → k < at → slice_index seat.taken k ≡ slice_index seat.submitted k

abbrev with_taken : Seat → List ℕ → List ℕ → Seat
with_taken seat taken swapped =
    record {
      intake = seat.intake;
      quota = seat.quota;
      takes = seat.takes;
      submitted = seat.submitted;
      taken = taken;
      additions = seat.additions;
      swapped = swapped;
    }

-- one word more, in the order of the words
next_word : (swapped cuts : List ℕ) (at found : ℕ) → at < length cuts →
    (swapped ++ range_with_len 0 (length (take at cuts))) ++ at ∷ []
    ≡ swapped ++ range_with_len 0 (length (take (at + 1) (set cuts at found)))
next_word swapped cuts at found lt =
    let more : length (take (at + 1) (set cuts at found)) ≡ at + 1 =
    length-take-le (at + 1) (set cuts at found) (omega (arith, length-set cuts at found)) in
    append_assoc swapped (range_with_len 0 (length (take at cuts))) (at ∷ [])
    ∙ ap (λ n. swapped ++ (range_with_len 0 n ++ at ∷ [])) (length-take-le at cuts (omega arith))
    ∙ ap (λ l. swapped ++ l) (sym (range-more at))
    ∙ ap (λ n. swapped ++ range_with_len 0 n) (sym more)

pub cut_none : (old : Seat) (cuts : List ℕ) → IsSeat old → CutTo old old 0 cuts
cut_none old cuts known =
    record {
      same = ap (λ t. with_taken old t old.swapped) (sym (added-nil old.taken))
          ∙ ap (λ l. with_taken old (added old.taken []) l) (sym (append-nil old.swapped));
      old_known = known;
      known = known;
      least = λ k lt. absurd (omega arith);
      whole = λ all k lt. absurd (omega arith);
    }

abbrev Takes : Seat → Seat → ℕ → ℕ → Type 0
Takes seat after at found =
    (after ≡ seat_after_take seat at found) × IsSeat after × (slice_index after.submitted at ≤ slice_index
    after.taken at)
    × (IsWhole seat → slice_index after.taken at ≡ slice_index after.submitted at)

still_whole : (old seat : Seat) (cuts : List ℕ) → seat ≡ seat_after_cut old cuts → IsWhole old → IsWhole seat
still_whole old seat cuts same all = subst (λ (s : Seat). IsWhole s) (sym same) all

-- what was taken of another cluster stays
others_stay : (seat after : Seat) (at found k : ℕ) → after ≡ seat_after_take seat at found → k ≢ at →
    (slice_index after.taken k ≡ slice_index seat.taken k) × (slice_index after.submitted k ≡ slice_index
    seat.submitted k)
others_stay seat after at found k same n = (
  ap (λ (s : Seat). slice_index s.taken k) same ∙ get_or-set_other seat.taken at k (slice_index seat.taken at +
      found) 0 n,
  ap (λ (s : Seat). slice_index s.submitted k) same,
)

pub cut_more : (old seat after : Seat) (at found : ℕ) (cuts : List ℕ) → CutTo old seat at cuts →
    at < old.intake.clusters → length cuts ≡ old.intake.clusters → Takes seat after at found →
    CutTo old after (at + 1) (set cuts at found)
cut_more old seat after at found cuts so_far lt len took =
    record {
      same = took.0 ∙ ap (λ (s : Seat). seat_after_take s at found) so_far.same
          ∙ ap (λ t. with_taken old t ((old.swapped ++ range_with_len 0 (length (take at cuts))) ++ at ∷ []))
          (raised-added old.taken cuts at found (omega (
            arith,
            so_far.old_known.taken_row,
            lt,
          )) (omega (arith, lt, len)) ∙ ap (λ n. added old.taken (take n (set cuts at found))) (sym (add-one at)))
          ∙ ap (λ l. with_taken old (added old.taken (take (at + 1) (set cuts at found))) l)
          (next_word old.swapped cuts at found (omega (arith, lt, len)));
      old_known = so_far.old_known;
      known = took.1;
      least = λ k lt'. elim (cases_eq k at) [
        | inl e ↦ subst (λ (n : ℕ). slice_index after.submitted n ≤ slice_index after.taken n) (sym e) took.2
        | inr n ↦ (let stay = others_stay seat after at found k took.0 n in omega (
          arith,
          stay.0,
          stay.1,
          so_far.least k (omega arith),
        ))
      ];
      whole = λ all k lt'. elim (cases_eq k at) [
        | inl e ↦ subst (λ (n : ℕ). slice_index after.taken n ≡ slice_index after.submitted n) (sym e) (took.3
            (still_whole old seat (take at cuts) so_far.same all))
        | inr n ↦ (let stay = others_stay seat after at found k took.0 n in omega (
          arith,
          stay.0,
          stay.1,
          so_far.whole all k (omega arith),
        ))
      ];
    }

pub cut_all : (old seat : Seat) (at : ℕ) (cuts : List ℕ) → CutTo old seat at cuts → length cuts ≤ at →
    seat ≡ seat_after_cut old cuts
cut_all old seat at cuts done end = done.same ∙ ap (λ l. seat_after_cut old l) (take_all at cuts end)

pub cut_least : (old seat : Seat) (at : ℕ) (cuts : List ℕ) → CutTo old seat at cuts → at ≡ seat.intake.clusters →
    (k : ℕ) → slice_index seat.submitted k ≤ slice_index seat.taken k
cut_least old seat at cuts done end k =
    elim (cases_lt k at) [
      | inl lt ↦ done.least k lt
      | inr past ↦ omega (arith, index-past seat.submitted k (omega (arith, done.known.submitted_row, end, past)))
    ]

pub cut_whole : (old seat : Seat) (at : ℕ) (cuts : List ℕ) → CutTo old seat at cuts → at ≡ seat.intake.clusters →
    IsWhole old → seat.taken ≡ seat.submitted
cut_whole old seat at cuts done end all =
    same_tally seat.taken seat.submitted (omega (
      arith,
      done.known.submitted_row,
      done.known.taken_row,
    )) (λ k lt. done.whole all k (omega (arith, lt, end, done.known.taken_row)))
