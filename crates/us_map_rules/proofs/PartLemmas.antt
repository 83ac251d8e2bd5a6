-- The first minislot at which each part of the rule fails, and from them that of all.
use Rattle.std.proofs.Common.{◌≡◌, ℕ, ◌+◌, ◌<◌, ◌≤◌, ◌==◌, Bool, true, false, List, [], ◌∷◌, cond, zero-add, Option, Some, None, refl, sym, ap, ◌∙◌, subst, arith, inl, inr}
use Rattle.std.specs.Prelude.{nat_lt, nat_le, ◌&&◌, ◌||◌, not}
use Rattle.std.specs.List.{AllByRecursion, list_all, list_any}
use Rattle.std.proofs.lemmas.Bool.{cases_Bool, cases_lt, eq-eqb, le-ltb, lt-ltb, le-leb, or_right, or_left, ltb-true, ltb-false}
use Rattle.std.proofs.lemmas.Bool.Decides.{nat_tests}
use Rattle.std.proofs.lemmas.List.Sums.{sum_by-cons}
use Rattle.us_flows.specs.declared.channels.Channel.{Channel}
use Rattle.us_lawful.specs.Regions.{Region, end_of, covers, holder_count, is_right_element, none_empty_at, end_holds, minislot_holds}
use Rattle.us_map_rules.specs.Minislots.{IsFirstFailing, lesser, owners_hold, element_holds, AreByStart, AreSideBySide, right_up_to, first_empty, first_shared, first_wrong, first_outside}

-- Tests.

-- tests that agree everywhere fail first at the same number
pub same_test : (f g : ℕ → Bool) (answer : Option ℕ) → ((at : ℕ) → f at ≡ g at) →
    IsFirstFailing f answer → IsFirstFailing g answer
same_test f g None same first = λ at. sym (same at) ∙ first at
same_test f g (Some n) same first = (sym (same n) ∙ first.0, λ at before. sym (same at) ∙ first.1 at before)

-- of two tests together the lesser
both : (f g : ℕ → Bool) (a b : Option ℕ) → IsFirstFailing f a → IsFirstFailing g b →
    IsFirstFailing (λ at. f at && g at) (lesser a b)
both f g None None of_f of_g = λ at. rw (of_f at) (of_g at)
both f g None (Some b) of_f of_g = (rw (of_f b) of_g.0, λ at before. rw (of_f at) (of_g.1 at before))
both f g (Some a) None of_f of_g = (rw of_f.0 refl, λ at before. rw (of_f.1 at before) (of_g at))
both f g (Some a) (Some b) of_f of_g = elim (cases_Bool (nat_lt b a)) [
  | inl less ↦
      let below : b < a = ltb-true b a less in
      rw less (rw (of_f.1 b below) of_g.0, λ at before. rw (of_f.1 at (omega (arith, before, below))) (of_g.1 at before))
  | inr more ↦
      let above : a ≤ b = ltb-false b a more in
      rw more (rw of_f.0 refl, λ at before. rw (of_f.1 at before) (of_g.1 at (omega (arith, before, above))))
]

-- Lists by start.

abbrev StartsFrom : ℕ → List Region → Type 0
StartsFrom from regions = AllByRecursion (λ later. from ≤ later.start) regions

-- Empty regions.

later_nonempty : (regions : List Region) (from at : ℕ) → StartsFrom from regions → at < from → none_empty_at regions at ≡ true
later_nonempty [] from at starts before = refl
later_nonempty (s ∷ more) from at starts before =
    let other : (not (s.start == at) || nat_lt 0 s.slots) ≡ true = grind (arith, nat_tests, starts.0, before) in
    rw other (later_nonempty more from at starts.1 before)

empty_is_first : (regions : List Region) → AreByStart regions → IsFirstFailing (none_empty_at regions) (first_empty regions)
empty_is_first [] ordered = λ at. refl
empty_is_first (s ∷ more) ordered = elim (cases_Bool (s.slots == 0)) [
  | inl empty ↦ rw empty (here empty, λ at before. before_it at before)
  | inr some ↦ rw some (same_test (none_empty_at more) (none_empty_at (s ∷ more))
      (first_empty more) (passes some) (empty_is_first more ordered.1))
]
  where
    here : (s.slots == 0) ≡ true → none_empty_at (s ∷ more) s.start ≡ false
    here empty =
        let fails : (not (s.start == s.start) || nat_lt 0 s.slots) ≡ false = grind (arith, nat_tests) in
        rw fails refl

    before_it : (at : ℕ) → at < s.start → none_empty_at (s ∷ more) at ≡ true
    before_it at before =
        let other : (not (s.start == at) || nat_lt 0 s.slots) ≡ true = grind (arith, nat_tests) in
        rw other (later_nonempty more s.start at ordered.0 before)

    passes : (s.slots == 0) ≡ false → (at : ℕ) → none_empty_at more at ≡ none_empty_at (s ∷ more) at
    passes some at =
        let other : (not (s.start == at) || nat_lt 0 s.slots) ≡ true = grind (arith, nat_tests) in
        rw other refl

-- Regions that have a minislot each.

holder_more : (at : ℕ) (s : Region) (more : List Region) →
    holder_count at (s ∷ more) ≡ cond {A = ℕ} (covers at s) 1 0 + holder_count at more
holder_more at s more = sum_by-cons (λ x. cond (covers at x) 1 0) s more

holder_this : (at : ℕ) (s : Region) (more : List Region) → covers at s ≡ true → holder_count at (s ∷ more) ≡ 1 + holder_count at more
holder_this at s more is =
    let one : cond {A = ℕ} (covers at s) 1 0 ≡ 1 = rw is refl in
    omega (arith, holder_more at s more, one)

holder_other : (at : ℕ) (s : Region) (more : List Region) → covers at s ≡ false → holder_count at (s ∷ more) ≡ holder_count at more
holder_other at s more is =
    let one : cond {A = ℕ} (covers at s) 1 0 ≡ 0 = rw is refl in
    omega (arith, holder_more at s more, one)

no_holder : (at from : ℕ) (regions : List Region) → StartsFrom from regions → at < from → holder_count at regions ≡ 0
no_holder at from [] starts before = refl
no_holder at from (s ∷ more) starts before =
    let other : covers at s ≡ false = grind (arith, nat_tests, starts.0, before) in
    holder_other at s more other ∙ no_holder at from more starts.1 before

-- how many of those before have a minislot: one at most, none from `end` on, and the last of them those from `from` to there
record Before (many : ℕ → ℕ) (from end : ℕ) : Type 0 where
  few : (at : ℕ) → many at ≤ 1
  behind : (at : ℕ) → end ≤ at → many at ≡ 0
  last : (at : ℕ) → from ≤ at → at < end → many at ≡ 1

abbrev owners_with : ℕ → (ℕ → ℕ) → List Region → ℕ → Bool
owners_with len many regions at = not (nat_lt at len) || nat_le (many at + holder_count at regions) 1

one_owner : (len at n : ℕ) → n ≤ 1 → (not (nat_lt at len) || nat_le n 1) ≡ true
one_owner len at n few = or_right (not (nat_lt at len)) (nat_le n 1) (le-leb n 1 few)

shared_first : (len from end : ℕ) (many : ℕ → ℕ) (regions : List Region) → Before many from end →
    StartsFrom from regions → AreByStart regions →
    IsFirstFailing (owners_with len many regions) (first_shared len end regions)
shared_first len from end many [] before starts ordered = λ at.
    let few : many at + 0 ≤ 1 = omega (arith, before.few at) in one_owner len at (many at + 0) few
shared_first len from end many (s ∷ more) before starts ordered = elim (cases_lt s.start len) [
  | inl inside ↦
      let here : nat_le len s.start ≡ false = grind (arith, nat_tests) in
      rw here (elim (cases_lt 0 s.slots) [
        | inl some ↦ rw (lt-ltb 0 s.slots some) (elim (cases_lt s.start end) [
          | inl twice ↦ rw (lt-ltb s.start end twice) (two some inside twice, λ at early. one_before at early)
          | inr apart ↦ rw (le-ltb s.start end apart)
              (same_test (owners_with len (λ at. many at + cond {A = ℕ} (covers at s) 1 0) more)
              (owners_with len many (s ∷ more)) (first_shared len (end_of s) more) (moved some)
              (shared_first len s.start (end_of s) (λ at. many at + cond {A = ℕ} (covers at s) 1 0) more
              (with_this apart) ordered.0 ordered.1))
        ])
        | inr none ↦ rw (le-ltb 0 s.slots none)
            (same_test (owners_with len many more) (owners_with len many (s ∷ more)) (first_shared len end more) (skipped none)
            (shared_first len from end many more before starts.1 ordered.1))
      ])
  | inr outside ↦
      let here : nat_le len s.start ≡ true = le-leb len s.start outside in
      rw here (λ at. all_outside outside at)
]
  where
    two : 0 < s.slots → s.start < len → s.start < end → owners_with len many (s ∷ more) s.start ≡ false
    two some inside twice =
        let this : covers s.start s ≡ true = grind (arith, nat_tests) in
        let count : holder_count s.start (s ∷ more) ≡ 1 + holder_count s.start more = holder_this s.start s more this in
        let last : many s.start ≡ 1 = before.last s.start starts.0 twice in
        let many_have : nat_le (many s.start + holder_count s.start (s ∷ more)) 1 ≡ false =
        grind (arith, nat_tests, count, last) in
        rw (lt-ltb s.start len inside, many_have) refl

    one_before : (at : ℕ) → at < s.start → owners_with len many (s ∷ more) at ≡ true
    one_before at early =
        let none : holder_count at (s ∷ more) ≡ 0 =
        no_holder at s.start (s ∷ more) (omega arith, ordered.0) early in
        one_owner len at (many at + holder_count at (s ∷ more)) (omega (arith, none, before.few at))

    moved : 0 < s.slots → (at : ℕ) → owners_with len (λ at. many at + cond {A = ℕ} (covers at s) 1 0) more at ≡ owners_with len many (s ∷ more) at
    moved some at =
        let sums : many at + cond {A = ℕ} (covers at s) 1 0 + holder_count at more ≡ many at + holder_count at (s ∷ more) =
        omega (arith, holder_more at s more) in
        rw sums refl

    skipped : s.slots ≤ 0 → (at : ℕ) → owners_with len many more at ≡ owners_with len many (s ∷ more) at
    skipped none at =
        let other : covers at s ≡ false = grind (arith, nat_tests) in
        let same : holder_count at more ≡ holder_count at (s ∷ more) = sym (holder_other at s more other) in
        rw same refl

    all_outside : len ≤ s.start → (at : ℕ) → owners_with len many (s ∷ more) at ≡ true
    all_outside outside at = elim (cases_lt at len) [
      | inl inside ↦
          let none : holder_count at (s ∷ more) ≡ 0 =
          no_holder at s.start (s ∷ more) (omega arith, ordered.0) (omega (arith, inside, outside)) in
          one_owner len at (many at + holder_count at (s ∷ more)) (omega (arith, none, before.few at))
      | inr over ↦ or_left (not (nat_lt at len)) (nat_le (many at + holder_count at (s ∷ more)) 1) (ap not (le-ltb at len over))
    ]

    with_this : end ≤ s.start → Before (λ at. many at + cond {A = ℕ} (covers at s) 1 0) s.start (end_of s)
    with_this apart = record {
      few = λ at. elim (cases_Bool (covers at s)) [
        | inl this ↦
            let one : cond {A = ℕ} (covers at s) 1 0 ≡ 1 = rw this refl in
            let up : s.start ≤ at = grind (arith, nat_tests, this) in
            omega (arith, one, before.behind at (omega (arith, apart, up)))
        | inr other ↦
            let none : cond {A = ℕ} (covers at s) 1 0 ≡ 0 = rw other refl in
            omega (arith, none, before.few at)
      ];
      behind = λ at over.
          let other : covers at s ≡ false = grind (arith, nat_tests, over) in
          let none : cond {A = ℕ} (covers at s) 1 0 ≡ 0 = rw other refl in
          omega (arith, none, before.behind at (omega (arith, apart, over)));
      last = λ at low high.
          let this : covers at s ≡ true = grind (arith, nat_tests, low, high) in
          let one : cond {A = ℕ} (covers at s) 1 0 ≡ 1 = rw this refl in
          omega (arith, one, before.behind at (omega (arith, apart, low)));
    }

starts_at_zero : (regions : List Region) → StartsFrom 0 regions
starts_at_zero [] = tt
starts_at_zero (s ∷ more) = (omega arith, starts_at_zero more)

shared_is_first : (len : ℕ) (regions : List Region) → AreByStart regions →
    IsFirstFailing (owners_hold len regions) (first_shared len 0 regions)
shared_is_first len regions ordered =
    same_test (owners_with len (λ at. 0) regions) (owners_hold len regions) (first_shared len 0 regions)
    (λ at. ap (λ n. not (nat_lt at len) || nat_le n 1) (zero-add (holder_count at regions)))
    (shared_first len 0 0 (λ at. 0) regions
    (record { few = λ at. omega arith; behind = λ at over. refl; last = λ at low high. absurd (omega (arith, high)) })
    (starts_at_zero regions) ordered)

-- Elements.

module _ (c : Channel) (len : ℕ) (regions : List Region) where
  abbrev is_right_at : ℕ → Region → Bool
  is_right_at at piece = covers at piece && is_right_element c len regions piece

  right_rises : (from : ℕ) (pieces : List Region) → AreSideBySide from pieces → from ≤ right_up_to c len regions from pieces
  right_rises from [] side = omega arith
  right_rises from (piece ∷ more) side = elim (cases_Bool (is_right_element c len regions piece)) [
    | inl right ↦ rw right (omega (arith, side.0, right_rises (end_of piece) more side.2))
    | inr wrong ↦ rw wrong (omega arith)
  ]

  none_before : (at from : ℕ) (pieces : List Region) → AreSideBySide from pieces → at < from →
      list_any (is_right_at at) pieces ≡ false
  none_before at from [] side early = refl
  none_before at from (piece ∷ more) side early =
      let other : covers at piece ≡ false = grind (arith, nat_tests, side.0, early) in
      rw other (none_before at (end_of piece) more side.2 (omega (arith, side.0, early)))

  right_before : (at from : ℕ) (pieces : List Region) → AreSideBySide from pieces → from ≤ at →
      at < right_up_to c len regions from pieces → list_any (is_right_at at) pieces ≡ true
  right_before at from [] side low high = absurd (omega (arith, low, high))
  right_before at from (piece ∷ more) side low high = elim (cases_Bool (is_right_element c len regions piece)) [
    | inl right ↦ elim (cases_lt at (end_of piece)) [
      | inl inside ↦
          let this : covers at piece ≡ true = grind (arith, nat_tests, side.0, low, inside) in
          rw (this, right) refl
      | inr over ↦
          let later : list_any (is_right_at at) more ≡ true =
          right_before at (end_of piece) more side.2 over (rw right at high) in
          or_right (is_right_at at piece) (list_any (is_right_at at) more) later
    ]
    | inr wrong ↦
        let none : at < from = rw wrong at high in
        absurd (omega (arith, low, none))
  ]

  wrong_there : (from : ℕ) (pieces : List Region) → AreSideBySide from pieces →
      list_any (is_right_at (right_up_to c len regions from pieces)) pieces ≡ false
  wrong_there from [] side = refl
  wrong_there from (piece ∷ more) side = elim (cases_Bool (is_right_element c len regions piece)) [
    | inl right ↦
        let end : right_up_to c len regions from (piece ∷ more) ≡ right_up_to c len regions (end_of piece) more = rw right refl in
        let up : end_of piece ≤ right_up_to c len regions (end_of piece) more = right_rises (end_of piece) more side.2 in
        let other : covers (right_up_to c len regions (end_of piece) more) piece ≡ false = grind (arith, nat_tests, up) in
        subst (λ e. list_any (is_right_at e) (piece ∷ more) ≡ false) (sym end) (rw other (wrong_there (end_of piece) more side.2))
    | inr wrong ↦
        let end : right_up_to c len regions from (piece ∷ more) ≡ from = rw wrong refl in
        let later : list_any (is_right_at from) more ≡ false =
        none_before from (end_of piece) more side.2 (omega (arith, side.0, side.1)) in
        subst (λ e. list_any (is_right_at e) (piece ∷ more) ≡ false) (sym end) (rw (wrong, later) (neither (covers from piece)))
  ]
    where
      neither : (b : Bool) → ((b && false) || false) ≡ false
      neither true = refl
      neither false = refl

  wrong_is_first : (pieces : List Region) → AreSideBySide 0 pieces →
      IsFirstFailing (element_holds c len regions pieces) (first_wrong c len regions pieces)
  wrong_is_first pieces side = elim (cases_lt (right_up_to c len regions 0 pieces) len) [
    | inl inside ↦ rw (lt-ltb (right_up_to c len regions 0 pieces) len inside) (
      rw (lt-ltb (right_up_to c len regions 0 pieces) len inside, wrong_there 0 pieces side) refl,
      λ at before. or_right (not (nat_lt at len)) (list_any (is_right_at at) pieces) (right_before at 0 pieces side (omega arith) before),
    )
    | inr all ↦ rw (le-ltb (right_up_to c len regions 0 pieces) len all) (λ at. elim (cases_lt at len) [
      | inl inside ↦ or_right (not (nat_lt at len)) (list_any (is_right_at at) pieces)
          (right_before at 0 pieces side (omega arith) (omega (arith, inside, all)))
      | inr over ↦ or_left (not (nat_lt at len)) (list_any (is_right_at at) pieces) (ap not (le-ltb at len over))
    ])
  ]

-- The end.

outside_is_first : (len : ℕ) (regions : List Region) → IsFirstFailing (end_holds len regions) (first_outside len regions)
outside_is_first len regions = elim (cases_Bool (list_all (λ s. (s.slots == 0) || nat_lt s.start len) regions)) [
  | inl all ↦ rw all (λ at. or_right (not (at == len)) (list_all (λ s. (s.slots == 0) || nat_lt s.start len) regions) all)
  | inr some ↦ rw some (
    rw (eq-eqb len len refl, some) refl,
    λ at before. or_left (not (at == len)) (list_all (λ s. (s.slots == 0) || nat_lt s.start len) regions)
        (grind (arith, nat_tests, before)),
  )
]

-- All parts.

parts_joined : (n l a b e : Bool) → ((n && (l || a)) && ((l || b) && e)) ≡ (n && ((l || (a && b)) && e))
parts_joined true true a b e = refl
parts_joined true false true b e = refl
parts_joined true false false b e = refl
parts_joined false l a b e = refl

pub minislot_first : (c : Channel) (len : ℕ) (regions pieces : List Region) → AreByStart regions → AreSideBySide 0 pieces →
    IsFirstFailing (minislot_holds c len regions pieces)
    (lesser (lesser (first_empty regions) (first_shared len 0 regions))
    (lesser (first_wrong c len regions pieces) (first_outside len regions)))
minislot_first c len regions pieces ordered side =
    let wrong : Option ℕ = first_wrong c len regions pieces in
    same_test
    (λ at. (none_empty_at regions at && owners_hold len regions at) && (element_holds c len regions pieces at && end_holds len regions at))
    (minislot_holds c len regions pieces)
    (lesser (lesser (first_empty regions) (first_shared len 0 regions)) (lesser wrong (first_outside len regions)))
    (λ at. parts_joined (none_empty_at regions at) (not (nat_lt at len)) (nat_le (holder_count at regions) 1)
    (list_any (λ piece. covers at piece && is_right_element c len regions piece) pieces) (end_holds len regions at))
    (both (λ at. none_empty_at regions at && owners_hold len regions at)
    (λ at. element_holds c len regions pieces at && end_holds len regions at)
    (lesser (first_empty regions) (first_shared len 0 regions)) (lesser wrong (first_outside len regions))
    (both (none_empty_at regions) (owners_hold len regions) (first_empty regions) (first_shared len 0 regions)
    (empty_is_first regions ordered) (shared_is_first len regions ordered))
    (both (element_holds c len regions pieces) (end_holds len regions) wrong (first_outside len regions)
    (wrong_is_first c len regions pieces side) (outside_is_first len regions)))
