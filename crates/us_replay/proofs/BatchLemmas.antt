-- Batches: where their rounds end, and how many end within so many bytes.
use Rattle.std.proofs.Common.{◌≡◌, ℕ, zero, suc, ◌+◌, ◌<◌, ◌≤◌, nat_le, List, [], ◌∷◌, ◌++◌, length, map, flat_map, take, drop, true, false, refl, ap, sym, subst, ◌∙◌, inl, inr, arith, append-nil, length-append}
use Rattle.std.proofs.Math.ListN.{get_or}
use Rattle.std.proofs.lemmas.Bool.{and_parts, cases_lt, false≢true, le-leb, leb-true}
use Rattle.std.proofs.lemmas.Grind.{flat_map-append}
use Rattle.std.proofs.lemmas.List.{get_or_append_left, get_or_push, get_or-map, length_push, take-append-drop, take-append-le, take_all}
use Rattle.std.proofs.lemmas.List.FromFn.{fill_by_all, get_or-map-range_with_len, length-map-range_with_len}
use Rattle.std.proofs.lemmas.List.Sums.{prefix_len-le-length, prefix_len_passes, prefix_len_stops}
use Rattle.std.specs.List.{AllByRecursion, range_with_len}
use Rattle.us_output.proofs.PartLemmas.{all_at}
use Rattle.us_output.specs.Outputs.{RoundOut}
use Rattle.us_output.specs.Files.{records, round_lines, lines}
use Rattle.us_replay.specs.declared.replays.batches.End.{End}
use Rattle.us_replay.specs.Batches.{Batch, AreInside, batch_of, end_of, ends_of, is_within, lines_before, no_rounds, rounds_within, with_next}

-- Lists.

-- more rounds have no fewer bytes
pub parts-grow : {X : Type 0} (f : X → List ℕ) (xs : List X) (i j : ℕ) → i ≤ j →
    length (flat_map f (take i xs)) ≤ length (flat_map f (take j xs))
parts-grow f [] zero j h = omega arith
parts-grow f [] (suc i) j h = omega arith
parts-grow f (x ∷ xs) zero j h = omega arith
parts-grow f (x ∷ xs) (suc i) zero h = absurd (omega (arith, h))
parts-grow f (x ∷ xs) (suc i) (suc j) h =
    omega (
      arith,
      length-append (f x) (flat_map f (take i xs)),
      length-append (f x) (flat_map f (take j xs)),
      parts-grow f xs i j (omega (arith, h)),
    )

-- and none has more than all
pub parts-most : {X : Type 0} (f : X → List ℕ) (xs : List X) (i : ℕ) →
    length (flat_map f (take i xs)) ≤ length (flat_map f xs)
parts-most f xs i =
    omega (
      arith,
      ap length (ap (flat_map f) (take-append-drop i xs)),
      ap length (flat_map-append f (take i xs) (drop i xs)),
      length-append (flat_map f (take i xs)) (flat_map f (drop i xs)),
    )

-- the parts of one more
pub push-part : {X Y : Type 0} (f : X → List Y) (xs : List X) (x : X) → flat_map f (xs ++ x ∷ []) ≡ flat_map f xs ++ f x
push-part f xs x = flat_map-append f xs (x ∷ []) ∙ ap (λ ys. flat_map f xs ++ ys) (append-nil (f x))

-- Where rounds end.

abbrev none : End
none = record { records = 0; lines = 0 }

pub length-ends : (rounds : List RoundOut) → length (ends_of rounds) ≡ length rounds
unfolding ends_of
length-ends rounds = length-map-range_with_len (λ before. end_of rounds (before + 1)) 0 (length rounds)

pub end-at : (rounds : List RoundOut) (n : ℕ) (d : End) → n < length rounds →
    get_or (ends_of rounds) n d ≡ end_of rounds (n + 1)
unfolding ends_of
end-at rounds n d below =
    get_or-map-range_with_len (λ before. end_of rounds (before + 1)) 0 (length rounds) n n d below (omega arith)

-- the end of a round stays where one follows
end-stays : (rounds : List RoundOut) (out : RoundOut) (count : ℕ) → count ≤ length rounds →
    end_of rounds count ≡ end_of (rounds ++ out ∷ []) count
end-stays rounds out count within =
    ap (λ taken. record { records = length (flat_map records taken); lines = length (flat_map round_lines taken) })
    (sym (take-append-le count rounds (out ∷ []) within))

ends-next : (rounds : List RoundOut) (out : RoundOut) (last : End) →
    last ≡ end_of (rounds ++ out ∷ []) (length rounds + 1) → ends_of rounds ++ last ∷ [] ≡ ends_of (rounds ++ out ∷ [])
unfolding ends_of
ends-next rounds out last is =
    fill_by_all (λ before. end_of (rounds ++ out ∷ []) (before + 1)) (ends_of rounds ++ last ∷ []) (length (rounds ++ out ∷ [])) last
    (omega (arith, length_push (ends_of rounds) last, length-ends rounds, length_push rounds out)) each
  where
    each : (k : ℕ) → k < length (rounds ++ out ∷ []) →
        get_or (ends_of rounds ++ last ∷ []) k last ≡ end_of (rounds ++ out ∷ []) (k + 1)
    each k below = elim (cases_lt k (length rounds)) [
      | inl early ↦
          get_or_append_left (ends_of rounds) (last ∷ []) last k (omega (arith, early, length-ends rounds)) ∙
          end-at rounds k last early ∙ end-stays rounds out (k + 1) (omega (arith, early))
      | inr late ↦
          let at : length rounds ≡ k = omega (arith, late, below, length_push rounds out) in
          get_or_push (ends_of rounds) last last k (length-ends rounds ∙ at) ∙ is ∙
          ap (λ n. end_of (rounds ++ out ∷ []) (n + 1)) at
    ]

-- a batch with one round more
pub next-batch : (rounds : List RoundOut) (out : RoundOut) → with_next (batch_of rounds []) out ≡ batch_of (rounds ++ out ∷ []) []
unfolding with_next lines
next-batch rounds out =
    let whole : List RoundOut = rounds ++ out ∷ [] in
    let last : End = record { records = length (flat_map records whole); lines = length (flat_map round_lines whole) } in
    let all : take (length rounds + 1) whole ≡ whole = take_all (length rounds + 1) whole (omega (arith, length_push rounds out)) in
    let ends_are : ends_of rounds ++ last ∷ [] ≡ ends_of whole = ends-next rounds out last (rw all refl) in
    rw (
      append-nil (flat_map round_lines rounds),
      ← push-part records rounds out,
      ← push-part round_lines rounds out,
      append-nil (flat_map round_lines whole),
      ends_are,
    ) refl

pub empty-batch : no_rounds ≡ batch_of [] []
unfolding ends_of lines
empty-batch = refl

-- all rounds end inside the lines
pub all-inside : (rounds : List RoundOut) (most : ℕ) → length (flat_map round_lines rounds) ≤ most →
    AllByRecursion (λ end. end.lines ≤ most) (ends_of rounds)
unfolding ends_of
all-inside rounds most whole = each 0 (length rounds)
  where
    each : (from n : ℕ) → AllByRecursion (λ end. end.lines ≤ most) (map (λ before. end_of rounds (before + 1)) (range_with_len from n))
    each from zero = tt
    each from (suc n) = (omega (arith, whole, parts-most round_lines rounds (from + 1)), each (from + 1) n)

-- where the lines of so many rounds end
pub lines-before : (rounds : List RoundOut) (n : ℕ) → n ≤ length rounds →
    lines_before n (ends_of rounds) ≡ length (flat_map round_lines (take n rounds))
lines-before rounds zero within = refl
lines-before rounds (suc n) within =
    let next : n + 1 ≡ suc n = omega arith in
    get_or-map (λ end. end.lines) (ends_of rounds) n none 0 (omega (arith, within, length-ends rounds)) ∙
    ap (λ end. end.lines) (end-at rounds n none (omega (arith, within))) ∙
    ap (λ n. length (flat_map round_lines (take n rounds))) next

-- which is inside the lines
pub before-inside : (b : Batch) (n : ℕ) → AreInside b → n ≤ length b.ends → lines_before n b.ends ≤ length b.lines
before-inside b zero inside within = omega arith
before-inside b (suc n) inside within =
    let at : lines_before (suc n) b.ends ≡ (get_or b.ends n none).lines =
    get_or-map (λ end. end.lines) b.ends n none 0 (omega (arith, within)) in
    omega (arith, at, all_at (λ end. end.lines ≤ length b.lines) b.ends n none inside (omega (arith, within)))

-- How many end within so many bytes.

pub within-most : (rounds : List RoundOut) (m n : ℕ) → rounds_within m n (ends_of rounds) ≤ length rounds
within-most rounds m n = omega (arith, prefix_len-le-length (is_within m n) (ends_of rounds), length-ends rounds)

-- they hold those rounds
pub record AreWithin (rounds : List RoundOut) (m n j : ℕ) : Type 0 where
  pub records : length (flat_map records (take j rounds)) ≤ m
  pub lines : length (flat_map round_lines (take j rounds)) ≤ n

pub within-hold : (rounds : List RoundOut) (m n j : ℕ) → j ≤ rounds_within m n (ends_of rounds) → AreWithin rounds m n j
within-hold rounds m n zero h = record { records = omega arith; lines = omega arith }
within-hold rounds m n (suc i) h =
    let here : i < length rounds = omega (arith, h, within-most rounds m n) in
    let passes : is_within m n (end_of rounds (i + 1)) ≡ true =
    ap (is_within m n) (sym (end-at rounds i none here)) ∙ prefix_len_passes (is_within m n) (ends_of rounds) i none (omega (arith, h)) in
    let next : i + 1 ≡ suc i = omega arith in
    let here_records : ℕ = length (flat_map records (take (i + 1) rounds)) in
    let here_lines : ℕ = length (flat_map round_lines (take (i + 1) rounds)) in
    let both = and_parts (nat_le here_records m) (nat_le here_lines n) passes in
    record {
      records = subst (λ j. length (flat_map records (take j rounds)) ≤ m) next (leb-true here_records m both.0);
      lines = subst (λ j. length (flat_map round_lines (take j rounds)) ≤ n) next (leb-true here_lines n both.1);
    }

-- and not the next one
pub within-next : (rounds : List RoundOut) (m n w : ℕ) → w ≡ rounds_within m n (ends_of rounds) → w < length rounds →
    AreWithin rounds m n (w + 1) → ⊥
within-next rounds m n w is below are =
    let fails : is_within m n (get_or (ends_of rounds) w none) ≡ false =
    rw is (prefix_len_stops (is_within m n) (ends_of rounds) none (omega (arith, is, below, length-ends rounds))) in
    let passes : is_within m n (end_of rounds (w + 1)) ≡ true =
    rw (
      le-leb (length (flat_map records (take (w + 1) rounds))) m are.records,
      le-leb (length (flat_map round_lines (take (w + 1) rounds))) n are.lines,
    ) refl in
    false≢true (sym fails ∙ ap (is_within m n) (end-at rounds w none below) ∙ passes)

-- so there are no more
pub within-greatest : (rounds : List RoundOut) (m n j : ℕ) → j ≤ length rounds → AreWithin rounds m n j →
    j ≤ rounds_within m n (ends_of rounds)
within-greatest rounds m n j inside are =
    let w : ℕ = rounds_within m n (ends_of rounds) in
    elim (cases_lt w j) [
      | inl over ↦ absurd (within-next rounds m n w refl (omega (arith, over, inside)) (record {
        records = omega (arith, are.records, parts-grow records rounds (w + 1) j (omega (arith, over)));
        lines = omega (arith, are.lines, parts-grow round_lines rounds (w + 1) j (omega (arith, over)));
      }))
      | inr most ↦ most
    ]
