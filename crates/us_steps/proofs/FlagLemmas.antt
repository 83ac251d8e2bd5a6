-- Flags that are set one by one, and how often they are named by the steps to come.
use Rattle.std.proofs.Common.{◌≡◌, ℕ, zero, suc, ◌<◌, ◌≤◌, ◌==◌, Bool, true, false, if◌then◌else◌, List, [], ◌∷◌, length, replicate, set, get_or, slice_set, refl, ap, sym, ◌∙◌, inl, inr, arith}
use Rattle.std.proofs.lemmas.Bool.{cases_Bool, eqb-true, eqb-false}
use Rattle.std.proofs.lemmas.List.{get_or-set_same, get_or-set_other, get_or-replicate}
use Rattle.us_steps.specs.Steps.{behind}
use Rattle.us_steps.specs.Machines.{are_set}
use Rattle.us_steps.proofs.CountLemmas.{count}

-- how often a flag is still to be set
abbrev pub unset : List Bool → ℕ → ℕ
unset flags i = if get_or flags i true then 0 else 1

pub unset-at : (flags : List Bool) (i : ℕ) → get_or flags i true ≡ false → unset flags i ≡ 1
unset-at flags i clear = ap (λ b. if b then 0 else 1) clear

pub unset-past : (flags : List Bool) (i : ℕ) → get_or flags i true ≡ true → unset flags i ≡ 0
unset-past flags i full = ap (λ b. if b then 0 else 1) full

pub unset-full : (flags : List Bool) (i : ℕ) → unset flags i ≡ 0 → get_or flags i true ≡ true
unset-full flags i none = elim (cases_Bool (get_or flags i true)) [
  | inl full ↦ full
  | inr clear ↦ absurd (omega (arith, unset-at flags i clear, none))
]

pub unset-few : (flags : List Bool) (i : ℕ) → unset flags i ≤ 1
unset-few flags i = elim (cases_Bool (get_or flags i true)) [
  | inl full ↦ rw full (omega arith)
  | inr clear ↦ rw clear (omega arith)
]

-- a flag that isn't set is there
pub clear-inside : (flags : List Bool) (i : ℕ) → get_or flags i true ≡ false → i < length flags
clear-inside [] i clear = absurd (cc clear)
clear-inside (flag ∷ flags) zero clear = omega arith
clear-inside (flag ∷ flags) (suc i) clear = omega (arith, clear-inside flags i clear)

-- once it is set, it is to be set no more, and the others are as they were
pub set-same : (flags : List Bool) (i r : ℕ) → get_or flags i true ≡ false → r ≡ i → unset (slice_set flags i true) r ≡ 0
set-same flags i r clear same =
    unset-past (slice_set flags i true) r
    (ap (λ n. get_or (set flags i true) n true) same ∙ get_or-set_same flags i true true (clear-inside flags i clear))

pub set-other : (flags : List Bool) (i r : ℕ) (d : Bool) → (r ≡ i → ⊥) → get_or (slice_set flags i true) r d ≡ get_or flags r d
set-other flags i r d apart = get_or-set_other flags i r true d apart

-- a step that sets a flag counts for it alone
pub set-counted : (flags : List Bool) (i r n : ℕ) → get_or flags i true ≡ false →
    (if i == r then suc n else n) ≡ unset flags r → n ≡ unset (slice_set flags i true) r
set-counted flags i r n clear is = elim (cases_Bool (i == r)) [
  | inl same ↦
      let at : i ≡ r = eqb-true i r same in
      let one : unset flags r ≡ 1 = unset-at flags r (ap (λ k. get_or flags k true) (sym at) ∙ clear) in
      let all : suc n ≡ unset flags r = rw same at is in
      omega (arith, one, all, set-same flags i r clear (sym at))
  | inr other ↦
      let all : n ≡ unset flags r = rw other at is in
      all ∙ ap (λ b. if b then 0 else 1) (sym (set-other flags i r true (λ at. eqb-false i r other (sym at))))
]

pub counted-set : (flags : List Bool) (i r n : ℕ) → get_or flags i true ≡ false →
    n ≡ unset (slice_set flags i true) r → (if i == r then suc n else n) ≡ unset flags r
counted-set flags i r n clear is = elim (cases_Bool (i == r)) [
  | inl same ↦
      let at : i ≡ r = eqb-true i r same in
      let one : unset flags r ≡ 1 = unset-at flags r (ap (λ k. get_or flags k true) (sym at) ∙ clear) in
      let all : suc n ≡ unset flags r = omega (arith, one, is, set-same flags i r clear (sym at)) in
      rw same all
  | inr other ↦
      let all : n ≡ unset flags r =
      is ∙ ap (λ b. if b then 0 else 1) (set-other flags i r true (λ at. eqb-false i r other (sym at))) in
      rw other all
]

-- a flag that is set already is counted no more
pub set-over : (flags : List Bool) (i n : ℕ) → get_or flags i true ≡ true →
    (if i == i then suc n else n) ≡ unset flags i → ⊥
set-over flags i n full is = elim (cases_Bool (i == i)) [
  | inl same ↦
      let all : suc n ≡ unset flags i = rw same at is in
      omega (arith, unset-past flags i full, all)
  | inr other ↦ eqb-false i i other refl
]

-- All flags.

pub set-none : (flags : List Bool) → are_set flags ≡ true → (i : ℕ) → unset flags i ≡ 0
set-none [] all i = refl
set-none (true ∷ flags) all zero = refl
set-none (true ∷ flags) all (suc i) = set-none flags all i
set-none (false ∷ flags) all i = absurd (cc all)

pub none-set : (flags : List Bool) → ((i : ℕ) → i < length flags → 0 ≡ unset flags i) → are_set flags ≡ true
none-set [] none = refl
none-set (true ∷ flags) none = none-set flags (λ i below. none (suc i) (omega (arith, below)))
none-set (false ∷ flags) none = absurd (omega (arith, none 0 (omega arith)))

pub unset-fresh : (n i : ℕ) → i < n → unset (replicate n false) i ≡ 1
unset-fresh n i below = unset-at (replicate n false) i (get_or-replicate n i false true below)

-- behind a step there are no more than all
pub behind-few : {X : Type 0} (p q : X → Bool) (xs : List X) → count p (behind q xs) ≤ count p xs
behind-few p q [] = omega arith
behind-few p q (x ∷ xs) = elim (cases_Bool (q x)) [
  | inl here ↦ rw here (more (p x))
  | inr later ↦ rw later (elim (cases_Bool (p x)) [
    | inl passes ↦ rw passes (omega (arith, behind-few p q xs))
    | inr fails ↦ rw fails (behind-few p q xs)
  ])
]
  where
    more : (b : Bool) → count p xs ≤ (if b then suc (count p xs) else count p xs)
    more true = omega arith
    more false = omega arith
