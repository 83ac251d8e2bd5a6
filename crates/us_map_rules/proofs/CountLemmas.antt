-- How often a number stands in a list, and a walk through numbers that rise.
use Rattle.std.proofs.Common.{◌≡◌, ℕ, suc, ◌+◌, ◌<◌, ◌≤◌, ◌==◌, ◌++◌, nat_le, nat_lt, Bool, true, false, cond, List, [], ◌∷◌, length, get_or, take, drop, refl, ap, sym, ◌∙◌, inl, inr, arith, eq-eqb, ne_eqb, le-leb, length-drop, ltb, ltb-false, ltb-true, lt-ltb, le-ltb, get_or-drop, Some, None}
use Rattle.std.specs.List.Sorted.{IsNonDecreasing, IsPartitionPoint}
use Rattle.std.specs.Prelude.{if◌then◌else◌}
use Rattle.std.specs.Int.{from_bool}
use Rattle.std.proofs.lemmas.Bool.{cases_eq, cases_lt, false≢true, lt-leb}
use Rattle.std.proofs.lemmas.List.{length-take-le, get_or-take}
use Rattle.std.proofs.lemmas.List.Sums.{sum_by_more, sum_by-append, sum_by-cons, sum_by-drop_more, sum_by-take-drop}
use Rattle.us_map_rules.specs.Failures.{IsDue, IsFirstWrong, times_in, times_named}

-- what is given where a test passes
pub if_some : {X : Type 0} (b : Bool) (x y : X) → Some y ≡ (if b then Some x else None) → (b ≡ true) × (x ≡ y)
if_some true x y is = (refl, cc is)
if_some false x y is = absurd (cc is)

-- Numbers.

abbrev one : ℕ → ℕ → ℕ
one n m = cond (m == n) 1 0

one_yes : (n m : ℕ) → m ≡ n → one n m ≡ 1
one_yes n m is = ap (λ b. cond {A = ℕ} b 1 0) (eq-eqb m n is)

one_no : (n m : ℕ) → (m ≡ n → ⊥) → one n m ≡ 0
one_no n m other = ap (λ b. cond {A = ℕ} b 1 0) (ne_eqb m n other)

-- a number that no place has isn't there
none_there : (xs : List ℕ) (n : ℕ) → ((k : ℕ) → k < length xs → get_or xs k 0 ≡ n → ⊥) → times_in xs n ≡ 0
none_there [] n none = refl
none_there (x ∷ xs) n none =
    let rest = none_there xs n (λ k inside. none (suc k) (omega (arith, inside))) in
    omega (arith, sum_by-cons (one n) x xs, one_no n x (none 0 (omega arith)), rest)

one_most : (n m : ℕ) → one n m ≤ 1
one_most n m = elim (cases_eq m n) [
  | inl is ↦ omega (arith, one_yes n m is)
  | inr other ↦ omega (arith, one_no n m other)
]

pub times_single : (m n : ℕ) → times_in (m ∷ []) n ≡ one n m
times_single m n = let all = sum_by-cons (one n) m [] in omega (arith, all)

-- those before the next
abbrev pub before : ℕ → ℕ → ℕ
before next n = if nat_lt n next then 1 else 0

abbrev as_number : Bool → ℕ
as_number b = if b then 1 else 0

before_yes : (next n : ℕ) → n < next → before next n ≡ 1
before_yes next n low = ap as_number (lt-ltb n next low)

pub before_no : (next n : ℕ) → next ≤ n → before next n ≡ 0
before_no next n from = ap as_number (le-ltb n next from)

-- One more is named.
pub named_beside : (next m : ℕ) (others : List ℕ) (n : ℕ) →
    times_named next (others ++ m ∷ []) n ≡ times_named next others n + times_in (m ∷ []) n
named_beside next m others n = omega (arith, sum_by-append (one n) others (m ∷ []))

-- In a walk the numbers up to one are looked at: each that comes is named once so far, and none that is more.
pub record IsWalked (come : ℕ → Bool) (first : ℕ) (xs : List ℕ) (i next : ℕ) : Type 0 where
  pub once : (m : ℕ) → m < next → come m ≡ true → times_named first (take i xs) m ≡ 1
  pub none : (m : ℕ) → next ≤ m → times_named first (take i xs) m ≡ 0

module _ (xs : List ℕ) (rising : IsNonDecreasing xs) where
  -- Of the places from one on, where they are more, none has a number.
  later_none : (i n : ℕ) → (i < length xs → n < get_or xs i 0) → times_in (drop i xs) n ≡ 0
  later_none i n less = none_there (drop i xs) n (λ k inside is.
      let within : i + k < length xs = omega (arith, inside, length-drop i xs) in
      let up = rising i (i + k) 0 (omega arith) within in
      omega (arith, up, less (omega (arith, within)), get_or-drop i xs k 0, is))

  -- Where a number would stand, and behind that where it is named before: it is named once at most just where another stands there.
  module _ (n at : ℕ) (inside : at ≤ length xs)
      (point : IsPartitionPoint (λ m. ltb m n ≡ true) (λ m. ltb m n ≡ false) xs at)
      (next second : ℕ) (second_is : second ≡ at + from_bool (nat_le next n)) where
    above : (k : ℕ) → at ≤ k → k < length xs → n ≤ get_or xs k 0
    above k high within = ltb-false (get_or xs k 0) n (point.1 k 0 high within)

    front : times_in (take at xs) n ≡ 0
    front = none_there (take at xs) n (λ k within is.
        let place : k < at = omega (arith, within, length-take-le at xs inside) in
        let below = ltb-true (get_or xs k 0) n (point.0 k 0 (omega arith) place) in
        omega (arith, below, sym (get_or-take at xs k 0 place) ∙ is))

    none_from : (j : ℕ) → at ≤ j → (j < length xs → get_or xs j 0 ≡ n → ⊥) → times_in (drop j xs) n ≡ 0
    none_from j high other = later_none j n (λ within. elim (cases_lt n (get_or xs j 0)) [
      | inl less ↦ less
      | inr least ↦ absurd (other within (omega (arith, least, above j high within)))
    ])

    here : n < next → second ≡ at
    here low = let none = ap from_bool (lt-leb next n low) in omega (arith, second_is, none)

    behind : next ≤ n → second ≡ at + 1
    behind from = let some = ap from_bool (le-leb next n from) in omega (arith, second_is, some)

    pub once_named : (second < length xs → get_or xs second 0 ≡ n → ⊥) → nat_le (times_named next xs n) 1 ≡ true
    once_named other = le-leb (times_named next xs n) 1 (elim (cases_lt n next) [
      | inl low ↦
          let rest = none_from at (omega arith) (λ within there.
          other (omega (arith, within, here low)) (ap (λ k. get_or xs k 0) (here low) ∙ there)) in
          omega (arith, sum_by-take-drop (one n) xs at, front, rest, before_yes next n low)
      | inr from ↦
          let rest = none_from (at + 1) (omega arith) (λ within there.
          other (omega (arith, within, behind from)) (ap (λ k. get_or xs k 0) (behind from) ∙ there)) in
          let parts = sum_by-take-drop (one n) xs at in
          elim (cases_lt at (length xs)) [
            | inl more ↦
                let first = sum_by-drop_more (one n) xs at 0 more in
                omega (arith, parts, front, first, rest, one_most n (get_or xs at 0), before_no next n from)
            | inr past ↦
                let none = none_from at (omega arith) (λ within. absurd (omega (arith, within, past))) in
                omega (arith, parts, front, none, before_no next n from)
          ]
    ])

    pub twice_named : second < length xs → get_or xs second 0 ≡ n → nat_le (times_named next xs n) 1 ≡ false
    twice_named more there = lt-leb (times_named next xs n) 1 (elim (cases_lt n next) [
      | inl low ↦
          let within : at < length xs = omega (arith, more, here low) in
          let same : get_or xs at 0 ≡ n = ap (λ k. get_or xs k 0) (sym (here low)) ∙ there in
          let first = sum_by-drop_more (one n) xs at 0 within in
          let ones = one_yes n (get_or xs at 0) same in
          omega (arith, sum_by-take-drop (one n) xs at, first, ones, before_yes next n low)
      | inr from ↦
          let within : at + 1 < length xs = omega (arith, more, behind from) in
          let same : get_or xs (at + 1) 0 ≡ n = ap (λ k. get_or xs k 0) (sym (behind from)) ∙ there in
          let up = rising at (at + 1) 0 (omega arith) within in
          let low = above at (omega arith) (omega (arith, within)) in
          let first : get_or xs at 0 ≡ n = omega (arith, up, low, same) in
          let parts = sum_by-take-drop (one n) xs at in
          let one_here = sum_by-drop_more (one n) xs at 0 (omega (arith, within)) in
          let one_there = sum_by-drop_more (one n) xs (at + 1) 0 within in
          let ones = one_yes n (get_or xs at 0) first in
          omega (arith, parts, one_here, one_there, ones, one_yes n (get_or xs (at + 1) 0) same)
    ])

  module _ (come : ℕ → Bool) (first : ℕ) where
    pub walk_begun : IsWalked come first xs 0 first
    walk_begun = record {
      once = λ m low comes.
          let empty : times_in (take 0 xs) m ≡ 0 = refl in
          omega (arith, empty, before_yes first m low);
      none = λ m from.
          let empty : times_in (take 0 xs) m ≡ 0 = refl in
          omega (arith, empty, before_no first m from);
    }

    module _ (i next : ℕ) (walked : IsWalked come first xs i next) where
      -- all that comes before what is due is below
      before_due : (due m : ℕ) → IsDue come next due → m < due → come m ≡ true → m < next
      before_due due m is low comes = elim (cases_lt m next) [
        | inl below ↦ below
        | inr from ↦ absurd (false≢true (sym (is.none m from low) ∙ comes))
      ]

      -- what is walked is named once by all, where it is less than the next
      still_once : (m : ℕ) → m < next → come m ≡ true → (i < length xs → m < get_or xs i 0) → times_named first xs m ≡ 1
      still_once m low comes less =
          omega (arith, sum_by-take-drop (one m) xs i, walked.once m low comes, later_none i m less)

      still_none : (m : ℕ) → next ≤ m → (i < length xs → m < get_or xs i 0) → times_named first xs m ≡ 0
      still_none m from less = omega (arith, sum_by-take-drop (one m) xs i, walked.none m from, later_none i m less)

      -- what is due isn't there, where the next is more or there is none,
      pub walk_missing : (due : ℕ) → IsDue come next due → (i < length xs → due < get_or xs i 0) →
          IsFirstWrong come (times_named first xs) due
      walk_missing due is less = record {
        comes = is.comes;
        wrong = λ once. omega (arith, once, still_none due is.later less);
        before = λ m low comes.
            still_once m (before_due due m is low comes) comes
            (λ inside. let more = less inside in omega (arith, low, more));
      }

      -- and a number that is less than the next is there twice
      pub walk_twice : i < length xs → get_or xs i 0 < next → come (get_or xs i 0) ≡ true →
          IsFirstWrong come (times_named first xs) (get_or xs i 0)
      walk_twice inside less comes =
          let n = get_or xs i 0 in record {
            comes = comes;
            wrong = λ once.
                let parts = sum_by-take-drop (one n) xs i in
                let here = sum_by-drop_more (one n) xs i 0 inside in
                omega (arith, once, parts, walked.once n less comes, here, one_yes n n refl);
            before = λ m low here. still_once m (omega (arith, low, less)) here (λ _. low);
          }

      -- A number more, before which none comes.
      pub walk_more : i < length xs → next ≤ get_or xs i 0 →
          ((m : ℕ) → next ≤ m → m < get_or xs i 0 → come m ≡ false) → IsWalked come first xs (i + 1) (get_or xs i 0 + 1)
      walk_more inside from clear =
          let n = get_or xs i 0 in record {
            once = λ m low comes.
                let more = sum_by_more (one m) xs i 0 inside in
                elim (cases_lt m next) [
                  | inl below ↦
                      let other = one_no m n (λ is. omega (arith, is, below, from)) in
                      omega (arith, more, walked.once m below comes, other)
                  | inr past ↦ elim (cases_eq n m) [
                    | inl is ↦ omega (arith, more, walked.none m past, one_yes m n is)
                    | inr apart ↦
                        absurd (false≢true (sym (clear m past (omega (arith, low, apart))) ∙ comes))
                  ]
                ];
            none = λ m low.
                let other = one_no m n (λ is. omega (arith, is, low)) in
                omega (arith, sum_by_more (one m) xs i 0 inside, walked.none m (omega (arith, low, from)), other);
          }
