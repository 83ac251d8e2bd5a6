-- Lists with the same items, in whatever order: all sums over them are the same, and so is all that a rule reads of them.
use Rattle.std.proofs.Common.{◌≡◌, ℕ, ◌+◌, Bool, List, [], ◌∷◌, ◌++◌, map, cond, Option, Some, None, IsPermutation, refl, sym, ap, ◌∙◌, arith, inl, inr}
use Rattle.std.specs.Prelude.{count_by, filter, filter_map, flat_map, sum_by, not, nat_lt}
use Rattle.std.specs.List.{list_all, list_any}
use Rattle.std.proofs.lemmas.Bool.{cases_Bool}
use Rattle.std.proofs.lemmas.Bool.Decides.{nat_tests}
use Rattle.std.proofs.lemmas.List.Sorted.{sum_by-IsPermutation}
use Rattle.std.proofs.lemmas.List.Sums.{sum_by-cons}
use Rattle.std.proofs.lemmas.List.Concat.{flat_map-cons}
use Rattle.us_lawful.proofs.TestLemmas.{all_by_any}

abbrev pub Same : {X : Type 0} → List X → List X → Type 0
Same {X = X} xs ys = (f : X → ℕ) → sum_by f xs ≡ sum_by f ys

pub same_moved : {X : Type 0} (xs ys : List X) → IsPermutation xs ys → Same xs ys
same_moved xs ys h f = sym (sum_by-IsPermutation f xs ys h)

-- Sums of parts.

pub sum_append : {X : Type 0} (f : X → ℕ) (xs ys : List X) → sum_by f (xs ++ ys) ≡ sum_by f xs + sum_by f ys
sum_append f [] ys = omega arith
sum_append f (x ∷ xs) ys = omega (arith, sum_by-cons f x (xs ++ ys), sum_by-cons f x xs, sum_append f xs ys)

pub same_append : {X : Type 0} (us vs xs ys : List X) → Same us vs → Same xs ys → Same (us ++ xs) (vs ++ ys)
same_append us vs xs ys front back f = omega (arith, sum_append f us xs, sum_append f vs ys, front f, back f)

pub sum_map : {X Y : Type 0} (f : Y → ℕ) (g : X → Y) (xs : List X) → sum_by f (map g xs) ≡ sum_by (λ x. f (g x)) xs
sum_map f g [] = refl
sum_map f g (x ∷ xs) =
    omega (arith, sum_by-cons f (g x) (map g xs), sum_by-cons (λ x. f (g x)) x xs, sum_map f g xs)

pub same_map : {X Y : Type 0} (g : X → Y) (xs ys : List X) → Same xs ys → Same (map g xs) (map g ys)
same_map g xs ys h f = sum_map f g xs ∙ h (λ x. f (g x)) ∙ sym (sum_map f g ys)

pub sum_filter : {X : Type 0} (f : X → ℕ) (p : X → Bool) (xs : List X) →
    sum_by f (filter p xs) ≡ sum_by (λ x. cond (p x) (f x) 0) xs
sum_filter f p [] = refl
sum_filter f p (x ∷ xs) =
    let all : sum_by (λ x. cond (p x) (f x) 0) (x ∷ xs) ≡ cond (p x) (f x) 0 + sum_by (λ x. cond (p x) (f x) 0) xs =
    sum_by-cons (λ x. cond (p x) (f x) 0) x xs in
    elim (cases_Bool (p x)) [
      | inl is ↦ rw (all, is) (omega (arith, sum_by-cons f x (filter p xs), sum_filter f p xs))
      | inr out ↦ rw (all, out) (omega (arith, sum_filter f p xs))
    ]

pub same_filter : {X : Type 0} (p : X → Bool) (xs ys : List X) → Same xs ys → Same (filter p xs) (filter p ys)
same_filter p xs ys h f = sum_filter f p xs ∙ h (λ x. cond (p x) (f x) 0) ∙ sym (sum_filter f p ys)

abbrev pub worth : {Y : Type 0} → (Y → ℕ) → Option Y → ℕ
worth f None = 0
worth f (Some y) = f y

worth_cons : {X Y : Type 0} (f : Y → ℕ) (g : X → Option Y) (x : X) (xs : List X) (y : Option Y) → g x ≡ y →
    sum_by f (filter_map g (x ∷ xs)) ≡ worth f y + sum_by f (filter_map g xs)
worth_cons f g x xs None h = rw h (omega arith)
worth_cons f g x xs (Some y) h = rw h (sum_by-cons f y (filter_map g xs))

pub sum_filter_map : {X Y : Type 0} (f : Y → ℕ) (g : X → Option Y) (xs : List X) →
    sum_by f (filter_map g xs) ≡ sum_by (λ x. worth f (g x)) xs
sum_filter_map f g [] = refl
sum_filter_map f g (x ∷ xs) =
    let one : sum_by f (filter_map g (x ∷ xs)) ≡ worth f (g x) + sum_by f (filter_map g xs) =
    worth_cons f g x xs (g x) refl in
    omega (arith, one, sum_filter_map f g xs, sum_by-cons (λ x. worth f (g x)) x xs)

pub same_filter_map : {X Y : Type 0} (g : X → Option Y) (xs ys : List X) → Same xs ys → Same (filter_map g xs) (filter_map g ys)
same_filter_map g xs ys h f = sum_filter_map f g xs ∙ h (λ x. worth f (g x)) ∙ sym (sum_filter_map f g ys)

pub sum_flat_map : {X Y : Type 0} (f : Y → ℕ) (g : X → List Y) (xs : List X) →
    sum_by f (flat_map g xs) ≡ sum_by (λ x. sum_by f (g x)) xs
sum_flat_map f g [] = refl
sum_flat_map f g (x ∷ xs) =
    rw (flat_map-cons g x xs)
    (omega (arith, sum_append f (g x) (flat_map g xs), sum_by-cons (λ x. sum_by f (g x)) x xs, sum_flat_map f g xs))

-- What passes.

pub same_count : {X : Type 0} (p : X → Bool) (xs ys : List X) → Same xs ys → count_by p xs ≡ count_by p ys
same_count p xs ys h = h (λ x. cond (p x) 1 0)

any_counted : {X : Type 0} (p : X → Bool) (xs : List X) → list_any p xs ≡ nat_lt 0 (sum_by (λ x. cond (p x) 1 0) xs)
any_counted p [] = grind (arith, nat_tests)
any_counted p (x ∷ xs) =
    let more : sum_by (λ x. cond (p x) 1 0) (x ∷ xs) ≡ cond (p x) 1 0 + sum_by (λ x. cond (p x) 1 0) xs =
    sum_by-cons (λ x. cond (p x) 1 0) x xs in
    let rest : list_any p xs ≡ nat_lt 0 (sum_by (λ x. cond (p x) 1 0) xs) = any_counted p xs in
    elim (cases_Bool (p x)) [
      | inl is ↦ rw (more, is) (grind (arith, nat_tests))
      | inr out ↦ rw (more, out) (grind (arith, nat_tests))
    ]

pub same_any : {X : Type 0} (p : X → Bool) (xs ys : List X) → Same xs ys → list_any p xs ≡ list_any p ys
same_any p xs ys h =
    any_counted p xs ∙ ap (nat_lt 0) (h (λ x. cond (p x) 1 0)) ∙ sym (any_counted p ys)

pub same_all : {X : Type 0} (p : X → Bool) (xs ys : List X) → Same xs ys → list_all p xs ≡ list_all p ys
same_all p xs ys h =
    all_by_any p xs ∙ ap not (same_any (λ x. not (p x)) xs ys h) ∙ sym (all_by_any p ys)
