-- Sums over the items of a list that pass.
use Rattle.std.proofs.Common.{◌≡◌, ℕ, ◌+◌, ◌≤◌, List, [], ◌∷◌, ◌++◌, filter, Bool, cond, refl, ap, ◌∙◌, arith, inl, inr}
use Rattle.std.specs.Prelude.{sum_by}
use Rattle.std.proofs.lemmas.Bool.{cases_Bool}
use Rattle.std.proofs.lemmas.List.Sums.{sum_by-cons, sum_by-append}
use Rattle.std.proofs.lemmas.List.Elements.{filter-append}

-- the items that pass, one more
pub sum_passing : {X : Type 0} (f : X → ℕ) (passes : X → Bool) (x : X) (xs : List X) →
    sum_by f (filter passes (x ∷ xs)) ≡ (cond (passes x) (f x) 0) + sum_by f (filter passes xs)
sum_passing f passes x xs = elim (cases_Bool (passes x)) [
  | inl is ↦ rw is (sum_by-cons f x (filter passes xs))
  | inr not ↦ rw not (omega arith)
]

-- and of two lists
pub sum_passing_both : {X : Type 0} (f : X → ℕ) (passes : X → Bool) (xs ys : List X) →
    sum_by f (filter passes (xs ++ ys)) ≡ sum_by f (filter passes xs) + sum_by f (filter passes ys)
sum_passing_both f passes xs ys =
    ap (sum_by f) (filter-append passes xs ys) ∙ sum_by-append f (filter passes xs) (filter passes ys)

-- where each is at most another, so are the sums
pub sum_least : {X : Type 0} (f g : X → ℕ) → ((x : X) → f x ≤ g x) → (xs : List X) → sum_by f xs ≤ sum_by g xs
sum_least f g less [] = omega arith
sum_least f g less (x ∷ xs) =
    let rest : sum_by f xs ≤ sum_by g xs = sum_least f g less xs in
    let first : f x ≤ g x = less x in
    rw (sum_by-cons f x xs, sum_by-cons g x xs) (omega arith)

-- the sum of two
pub sum_both : {X : Type 0} (f g : X → ℕ) (xs : List X) → sum_by (λ x. f x + g x) xs ≡ sum_by f xs + sum_by g xs
sum_both f g [] = refl
sum_both f g (x ∷ xs) =
    let rest : sum_by (λ x. f x + g x) xs ≡ sum_by f xs + sum_by g xs = sum_both f g xs in
    rw (sum_by-cons (λ x. f x + g x) x xs, sum_by-cons f x xs, sum_by-cons g x xs) (omega arith)

-- nothing adds up to nothing
pub sum_none : {X : Type 0} (f : X → ℕ) → ((x : X) → f x ≡ 0) → (xs : List X) → sum_by f xs ≡ 0
sum_none f none [] = refl
sum_none f none (x ∷ xs) = rw (sum_by-cons f x xs) (omega (arith, none x, sum_none f none xs))
