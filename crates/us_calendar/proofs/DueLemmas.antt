-- What is due of an entry where its first occurrences are settled: the next one and so on, or nothing.
use Rattle.std.proofs.Common.{◌≡◌, ℕ, zero, suc, ◌+◌, ◌*◌, ◌<◌, ◌≤◌, nat_lt, nat_eq, ◌&&◌, not, Bool, true, false, cond, List, [], ◌∷◌, filter, refl, ap, ap₂, sym, ◌∙◌, inl, inr, ne_eqb, eq-eqb, lt-ltb, le-ltb, arith}
use Rattle.std.specs.List.{list_any, range_with_len, AllByRecursion}
use Rattle.std.proofs.lemmas.Bool.{cases_lt, cases_eq, cases_Bool, and_right, and_parts, ltb-true}
use Rattle.us_calendar.specs.Entries.{Entry}
use Rattle.us_calendar.specs.Occurrences.{ideal, due}
use Rattle.us_calendar.proofs.IdealLemmas.{HasWindows, ideal-rises, number-below}

-- a number is among those of a range, or it is not

stands_in : (m from count : ℕ) → from ≤ m → m < from + count → list_any (nat_eq m) (range_with_len from count) ≡ true
stands_in m from zero low high = absurd (omega (arith, low, high))
stands_in m from (suc count) low high = elim (cases_eq m from) [
  | inl same ↦ rw (eq-eqb m from same) refl
  | inr other ↦
      rw (ne_eqb m from other, stands_in m (from + 1) count (omega (arith, low, other)) (omega (arith, high))) refl
]

stands_behind : (m from count : ℕ) → from + count ≤ m → list_any (nat_eq m) (range_with_len from count) ≡ false
stands_behind m from zero h = refl
stands_behind m from (suc count) h =
    rw (ne_eqb m from (λ e. omega (arith, h, e)), stands_behind m (from + 1) count (omega (arith, h))) refl

-- whether occurrence `m` is due where the first `n` are settled
abbrev is_due : Entry → ℕ → ℕ → ℕ → Bool
is_due e end n m = nat_lt (ideal e m) end && not (list_any (nat_eq m) (range_with_len 0 n))

settled_before : (e : Entry) (end n m : ℕ) → m < n → is_due e end n m ≡ false
settled_before e end n m h =
    and_right (nat_lt (ideal e m) end) (not (list_any (nat_eq m) (range_with_len 0 n)))
    (rw (stands_in m 0 n (omega arith) (omega arith)) refl)

due_where : (e : Entry) (end n m : ℕ) → n ≤ m → is_due e end n m ≡ nat_lt (ideal e m) end
due_where e end n m h = rw (stands_behind m 0 n (omega arith)) (grind arith)

-- numbers that pass

filter-none : (p : ℕ → Bool) (from count : ℕ) → ((m : ℕ) → from ≤ m → p m ≡ false) → filter p (range_with_len from count) ≡ []
filter-none p from zero none = refl
filter-none p from (suc count) none =
    rw (none from (omega arith)) (filter-none p (from + 1) count (λ m h. none m (omega (arith, h))))

filter-same : (p q : ℕ → Bool) (from count : ℕ) → ((m : ℕ) → from ≤ m → p m ≡ q m) →
    filter p (range_with_len from count) ≡ filter q (range_with_len from count)
filter-same p q from zero same = refl
filter-same p q from (suc count) same =
    ap₂ (λ (b : Bool) (more : List ℕ). cond b (from ∷ more) more) (same from (omega arith))
    (filter-same p q (from + 1) count (λ m h. same m (omega (arith, h))))

filter-next : (p q : ℕ → Bool) (n from count : ℕ) → from ≤ n → n < from + count → p n ≡ true → q n ≡ false →
    ((m : ℕ) → m < n → p m ≡ false) → ((m : ℕ) → m < n → q m ≡ false) → ((m : ℕ) → n < m → p m ≡ q m) →
    filter p (range_with_len from count) ≡ n ∷ filter q (range_with_len from count)
filter-next p q n from zero low high is isnt p_before q_before after = absurd (omega (arith, low, high))
filter-next p q n from (suc count) low high is isnt p_before q_before after = elim (cases_lt from n) [
  | inl less ↦
      rw (p_before from less, q_before from less)
      (filter-next p q n (from + 1) count (omega (arith, less)) (omega (arith, high)) is isnt p_before q_before after)
  | inr here ↦
      let same : from ≡ n = omega (arith, low, here) in
      rw (same, is, isnt) (ap (λ more. n ∷ more) (filter-same p q (n + 1) count (λ m h. after m (omega (arith, h)))))
]

-- nothing is due where the next occurrence is ideal later,
pub due-none : (e : Entry) (end n : ℕ) → HasWindows e → end ≤ ideal e n → due e end (range_with_len 0 n) ≡ []
unfolding due
due-none e end n is h =
    filter-none (is_due e end n) 0 (end * e.grants) (λ m _. elim (cases_lt m n) [
      | inl before ↦ settled_before e end n m before
      | inr from ↦
          due_where e end n m from ∙ le-ltb (ideal e m) end (omega (arith, h, ideal-rises e n m is from))
    ])

-- and else that one, and what is due where it is settled too
pub due-next : (e : Entry) (end n : ℕ) → HasWindows e → ideal e n < end →
    due e end (range_with_len 0 n) ≡ n ∷ due e end (range_with_len 0 (n + 1))
unfolding due
due-next e end n is h =
    filter-next (is_due e end n) (is_due e end (n + 1)) n 0 (end * e.grants) (omega arith)
    (omega (arith, number-below e n end is h)) (due_where e end n n (omega arith) ∙ lt-ltb (ideal e n) end h)
    (settled_before e end (n + 1) n (omega arith)) (λ m l. settled_before e end n m l)
    (λ m l. settled_before e end (n + 1) m (omega (arith, l)))
    (λ m l. due_where e end n m (omega (arith, l)) ∙ sym (due_where e end (n + 1) m (omega (arith, l))))

-- whatever is due is no earlier one
filter-passes : (P : ℕ → Type 0) (p : ℕ → Bool) (from count : ℕ) → ((m : ℕ) → p m ≡ true → P m) →
    AllByRecursion P (filter p (range_with_len from count))
filter-passes P p from zero each = tt
filter-passes P p from (suc count) each = elim (cases_Bool (p from)) [
  | inl t ↦ rw t (each from t, filter-passes P p (from + 1) count each)
  | inr f ↦ rw f (filter-passes P p (from + 1) count each)
]

pub due-all : (e : Entry) (end n : ℕ) →
    AllByRecursion (λ m. (n ≤ m) × (ideal e m < end)) (due e end (range_with_len 0 n))
unfolding due
due-all e end n =
    filter-passes (λ m. (n ≤ m) × (ideal e m < end)) (is_due e end n) 0 (end * e.grants)
    (λ m is. (
      from m is,
      ltb-true (ideal e m) end
          (and_parts (nat_lt (ideal e m) end) (not (list_any (nat_eq m) (range_with_len 0 n))) is).0,
    ))
  where
    from : (m : ℕ) → is_due e end n m ≡ true → n ≤ m
    from m is = elim (cases_lt m n) [
      | inl before ↦ let never : false ≡ true = sym (settled_before e end n m before) ∙ is in absurd cc
      | inr here ↦ here
    ]
