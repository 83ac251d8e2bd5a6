-- Sums over the items of a list, and lists of which one place changes.
use Rattle.std.proofs.Common.{◌≡◌, ◌≢◌, ℕ, zero, suc, ◌+◌, ◌≤◌, ◌⊎◌, List, [], ◌∷◌, ◌++◌, set, sum_by, slice_get, Some, refl, ap, sym, inl, inr, ⊎_elim, arith}
use mathlib.Core.Option.{some, some-ne-none, some-injective}
use lib.ListN.{get_elem?}
use Rattle.std.proofs.lemmas.Option.{none-some, same_Some, slice_get_within, get_or_from_slice_get}
use Rattle.std.proofs.lemmas.List.Sums.{sum_by-cons, sum_by-set, get_or-le-sum_by}

module _ {A : Type 0} where
  -- the table's word for an item by its place, and that of clauses
  pub item_at : (l : List A) (j : ℕ) (v : A) → get_elem? l j ≡ some v → slice_get l j ≡ Some v
  item_at [] j v e = absurd (some-ne-none v (sym e))
  item_at (x ∷ xs) zero v e = ap Some (some-injective x v e)
  item_at (x ∷ xs) (suc j) v e = item_at xs j v e

  pub at_item : (l : List A) (j : ℕ) (v : A) → slice_get l j ≡ Some v → get_elem? l j ≡ some v
  at_item [] j v e = absurd (none-some v e)
  at_item (x ∷ xs) zero v e = ap some (same_Some x v e)
  at_item (x ∷ xs) (suc j) v e = at_item xs j v e

  -- an item of a list with one place set, of one with an item behind it, and of one item
  pub set_item : (l : List A) (i j : ℕ) (a b : A) → slice_get (set l i a) j ≡ Some b →
      ((j ≡ i) × (a ≡ b)) ⊎ ((j ≢ i) × (slice_get l j ≡ Some b))
  set_item [] i j a b e = absurd (none-some b e)
  set_item (x ∷ xs) zero zero a b e = inl (refl, same_Some a b e)
  set_item (x ∷ xs) zero (suc j) a b e = inr ((λ h. omega arith), e)
  set_item (x ∷ xs) (suc i) zero a b e = inr ((λ h. omega arith), e)
  set_item (x ∷ xs) (suc i) (suc j) a b e =
      ⊎_elim (λ t. inl (ap suc t.0, t.1)) (λ t. let n = t.0 in inr (
        (λ h. n (omega arith)),
        t.1,
      )) (set_item xs i j a b e)

  pub set_other : (l : List A) (i j : ℕ) (a : A) → j ≢ i → slice_get (set l i a) j ≡ slice_get l j
  set_other [] i j a n = refl
  set_other (x ∷ xs) zero zero a n = absurd (n refl)
  set_other (x ∷ xs) zero (suc j) a n = refl
  set_other (x ∷ xs) (suc i) zero a n = refl
  set_other (x ∷ xs) (suc i) (suc j) a n = set_other xs i j a (λ e. n (ap suc e))

  pub set_here : (l : List A) (i : ℕ) (a b : A) → slice_get l i ≡ Some a → slice_get (set l i b) i ≡ Some b
  set_here [] i a b e = absurd (none-some a e)
  set_here (x ∷ xs) zero a b e = refl
  set_here (x ∷ xs) (suc i) a b e = set_here xs i a b e

  pub snoc_item : (l : List A) (a b : A) (j : ℕ) → slice_get (l ++ a ∷ []) j ≡ Some b →
      (slice_get l j ≡ Some b) ⊎ (a ≡ b)
  snoc_item [] a b zero e = inr (same_Some a b e)
  snoc_item [] a b (suc j) e = absurd (none-some b e)
  snoc_item (x ∷ xs) a b zero e = inl e
  snoc_item (x ∷ xs) a b (suc j) e = snoc_item xs a b j e

  module _ (g : A → ℕ) where
    pub sum-set : (l : List A) (j : ℕ) (v w : A) → slice_get l j ≡ Some v →
        sum_by g (set l j w) + g v ≡ sum_by g l + g w
    sum-set l j v w at =
        omega (arith, sum_by-set g l j w v (slice_get_within l j v at), ap g (get_or_from_slice_get l j v v at))

    pub term_le : (l : List A) (j : ℕ) (v : A) → slice_get l j ≡ Some v → g v ≤ sum_by g l
    term_le l j v at =
        omega (arith, get_or-le-sum_by g l j v (slice_get_within l j v at), ap g (get_or_from_slice_get l j v v at))

    pub terms_le : (l : List A) (j k : ℕ) (v u : A) → k ≢ j → slice_get l j ≡ Some v → slice_get l k ≡ Some u →
        g v + g u ≤ sum_by g l
    terms_le [] j k v u n e d = absurd (none-some v e)
    terms_le (x ∷ xs) zero zero v u n e d = absurd (n refl)
    terms_le (x ∷ xs) zero (suc k) v u n e d =
        omega (arith, sum_by-cons g x xs, ap g (same_Some x v e), term_le xs k u d)
    terms_le (x ∷ xs) (suc j) zero v u n e d =
        omega (arith, sum_by-cons g x xs, ap g (same_Some x u d), term_le xs j v e)
    terms_le (x ∷ xs) (suc j) (suc k) v u n e d =
        omega (arith, sum_by-cons g x xs, terms_le xs j k v u (λ h. n (ap suc h)) e d)

    pub none-counts : (l : List A) → ((k : ℕ) (u : A) → slice_get l k ≡ Some u → g u ≡ 0) → sum_by g l ≡ 0
    none-counts [] h = refl
    none-counts (x ∷ xs) h =
        omega (arith, sum_by-cons g x xs, h 0 x refl, none-counts xs (λ k u e. h (suc k) u e))

    -- only one item counts
    pub alone : (l : List A) (j : ℕ) (v : A) → slice_get l j ≡ Some v →
        ((k : ℕ) (u : A) → k ≢ j → slice_get l k ≡ Some u → g u ≡ 0) → sum_by g l ≡ g v
    alone [] j v e h = absurd (none-some v e)
    alone (x ∷ xs) zero v e h =
        let rest : sum_by g xs ≡ 0 = none-counts xs (λ k u d. h (suc k) u (λ s. omega arith) d) in
        omega (arith, sum_by-cons g x xs, ap g (same_Some x v e), rest)
    alone (x ∷ xs) (suc j) v e h =
        let first : g x ≡ 0 = h 0 x (λ s. omega arith) refl in
        let rest : sum_by g xs ≡ g v = alone xs j v e (λ k u n d. h (suc k) u (λ s. n (omega arith)) d) in
        omega (arith, sum_by-cons g x xs, first, rest)

  -- item by item no more, so in all no more
  pub sum_le : (f g : A → ℕ) (l : List A) → ((k : ℕ) (u : A) → slice_get l k ≡ Some u → f u ≤ g u) →
      sum_by f l ≤ sum_by g l
  sum_le f g [] h = omega arith
  sum_le f g (x ∷ xs) h =
      omega (arith, sum_by-cons f x xs, sum_by-cons g x xs, h 0 x refl, sum_le f g xs (λ k u e. h (suc k) u e))
