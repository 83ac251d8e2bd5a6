-- Pairs of two lists, as far as both go.
use Rattle.std.proofs.Common.{◌≡◌, ℕ, zero, suc, ◌≤◌, List, [], ◌∷◌, ◌++◌, length, drop, min, refl, sym, ◌∙◌, ap, arith}
use Rattle.std.specs.Prelude.{zip}
use Rattle.std.proofs.lemmas.List.{append-nil}

zip_nothing : {A B : Type 0} (xs : List A) → let none : List B = [] in zip xs none ≡ []
zip_nothing [] = refl
zip_nothing (x ∷ xs) = refl

-- behind the end of one of them there is no pair
zip_past : {A B : Type 0} (n : ℕ) (xs : List A) (ys : List B) → min (length xs) (length ys) ≤ n →
    zip (drop n xs) (drop n ys) ≡ []
zip_past zero [] ys past = refl
zip_past zero (x ∷ xs) [] past = refl
zip_past zero (x ∷ xs) (y ∷ ys) past = absurd (omega (arith, past))
zip_past (suc n) [] ys past = refl
zip_past (suc n) (x ∷ xs) [] past = zip_nothing (drop n xs)
zip_past (suc n) (x ∷ xs) (y ∷ ys) past = zip_past n xs ys (omega (arith, past))

-- so that all pairs are there
pub all_pairs : {A B : Type 0} (pairs old : List (A × B)) (n : ℕ) (xs : List A) (ys : List B) →
    min (length xs) (length ys) ≤ n → pairs ++ zip (drop n xs) (drop n ys) ≡ old ++ zip xs ys → pairs ≡ old ++ zip xs ys
all_pairs pairs old n xs ys past h = sym (append-nil pairs) ∙ ap (λ rest. pairs ++ rest) (sym (zip_past n xs ys past)) ∙ h
