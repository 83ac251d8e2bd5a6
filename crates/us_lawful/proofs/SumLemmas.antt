-- Sums to which one item adds at most.
use Rattle.std.proofs.Common.{◌≡◌, ◌≢◌, ℕ, zero, suc, ◌+◌, List, [], ◌∷◌, map, Some, option_map, refl, ap, sym, ◌∙◌, arith}
use Rattle.std.specs.Prelude.{sum_by, slice_get}
use Rattle.std.specs.List.{AllByRecursion}
use Rattle.std.proofs.lemmas.List.Sums.{sum_by-cons}
use Rattle.std.proofs.lemmas.Option.{slice_get-map}
use Rattle.us_flows.specs.Lawful.{AreApart}
use Rattle.us_output.proofs.PartLemmas.{all_found}

pub sum_none : {X : Type 0} (f : X → ℕ) (xs : List X) → AllByRecursion (λ x. f x ≡ 0) xs → sum_by f xs ≡ 0
sum_none f [] h = refl
sum_none f (x ∷ xs) h = omega (arith, sum_by-cons f x xs, h.0, sum_none f xs h.1)

-- sums that agree at each item
pub sum_same : {X : Type 0} (f g : X → ℕ) (xs : List X) → AllByRecursion (λ x. f x ≡ g x) xs → sum_by f xs ≡ sum_by g xs
sum_same f g [] h = refl
sum_same f g (x ∷ xs) h = omega (arith, sum_by-cons f x xs, sum_by-cons g x xs, h.0, sum_same f g xs h.1)

pub sum_both : {X : Type 0} (f g : X → ℕ) (xs : List X) → sum_by (λ x. f x + g x) xs ≡ sum_by f xs + sum_by g xs
sum_both f g [] = refl
sum_both f g (x ∷ xs) =
    omega (arith, sum_by-cons (λ x. f x + g x) x xs, sum_by-cons f x xs, sum_by-cons g x xs, sum_both f g xs)

sum_others : {X : Type 0} (key : X → ℕ) (g : X → ℕ) (xs : List X) (n : ℕ) → AllByRecursion (λ k. n ≢ k) (map key xs) →
    ((y : X) → key y ≢ n → g y ≡ 0) → sum_by g xs ≡ 0
sum_others key g [] n apart none = refl
sum_others key g (y ∷ xs) n apart none =
    omega (arith, sum_by-cons g y xs, none y (λ same. apart.0 (sym same)), sum_others key g xs n apart.1 none)

-- where keys are apart, and items of other keys add nothing
pub sum_single : {X : Type 0} (key : X → ℕ) (g : X → ℕ) (xs : List X) (place : ℕ) (x : X) → AreApart (map key xs) →
    slice_get xs place ≡ Some x → ((y : X) → key y ≢ key x → g y ≡ 0) → sum_by g xs ≡ g x
sum_single key g [] place x apart at none = absurd (cc at)
sum_single key g (y ∷ xs) zero x apart at none =
    let same : y ≡ x = cc in
    let others : sum_by g xs ≡ 0 =
    sum_others key g xs (key y) apart.0 (λ z other. none z (λ equal. other (equal ∙ ap key (sym same)))) in
    omega (arith, sum_by-cons g y xs, others, ap g same)
sum_single key g (y ∷ xs) (suc place) x apart at none =
    let there : slice_get (map key xs) place ≡ Some (key x) = slice_get-map key xs place ∙ ap (option_map key) at in
    let other : key y ≢ key x = all_found (λ k. key y ≢ k) (map key xs) place (key x) apart.0 there in
    omega (arith, sum_by-cons g y xs, none y other, sum_single key g xs place x apart.1 at none)
