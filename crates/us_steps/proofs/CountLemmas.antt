-- Counts and sums step by step, as proofs go through lists; and that the library's are these.
use Rattle.std.proofs.Common.{◌≡◌, ℕ, suc, ◌+◌, ◌<◌, Bool, if◌then◌else◌, List, [], ◌∷◌, refl, ap, sym, ◌∙◌, inl, inr, arith}
use Rattle.std.specs.List.{AllByRecursion, sum_by, count_by}
use Rattle.std.proofs.lemmas.Bool.{cases_Bool}
use Rattle.std.proofs.lemmas.List.Sums.{sum_by-cons, sum_by_from}
use Rattle.us_steps.specs.declared.steps.Step.{Step}
use Rattle.us_steps.specs.Steps.{behind, adds, takes, opens, builds, takes_one, opens_one, IsThere, IsComplete}

-- how many pass
abbrev pub count : {X : Type 0} → (X → Bool) → List X → ℕ
count p [] = 0
count p (x ∷ xs) = if p x then suc (count p xs) else count p xs

pub counted : {X : Type 0} (p : X → Bool) (xs : List X) → count_by p xs ≡ count p xs
counted p [] = refl
counted {X} p (x ∷ xs) = elim (cases_Bool (p x)) [
  | inl passes ↦
      rw passes (sum_by_from (λ (y : X). if p y then 1 else 0) 1 xs ∙ omega (arith, counted p xs))
  | inr fails ↦ rw fails (counted p xs)
]

-- the sum of a number of each
abbrev pub total : {X : Type 0} → (X → ℕ) → List X → ℕ
total f [] = 0
total f (x ∷ xs) = f x + total f xs

pub totalled : {X : Type 0} (f : X → ℕ) (xs : List X) → sum_by f xs ≡ total f xs
totalled f [] = refl
totalled f (x ∷ xs) = sum_by-cons f x xs ∙ ap (λ n. f x + n) (totalled f xs)

-- a complete list, counted so
pub record IsCounted (rows words channels : ℕ) (steps : List Step) : Type 0 where
  pub there : AllByRecursion (IsThere rows words channels) steps
  pub added : (r : ℕ) → r < rows → count (adds r) steps ≡ 1
  pub taken : (q : ℕ) → q < words → count (takes q) steps ≡ 1
  pub opened : (c : ℕ) → c < channels → count (opens c) steps ≡ 1
  pub built : (c : ℕ) → c < channels → count (builds c) steps ≡ 1
  pub settled : count takes_one (behind opens_one steps) ≡ 0
  pub later : (c : ℕ) → c < channels → count (builds c) (behind (opens c) steps) ≡ 1

pub complete-counted : {rows words channels : ℕ} {steps : List Step} → IsComplete rows words channels steps →
    IsCounted rows words channels steps
complete-counted {rows} {words} {channels} {steps} all = record {
  there = all.there;
  added = λ r below. sym (counted (adds r) steps) ∙ all.added r below;
  taken = λ q below. sym (counted (takes q) steps) ∙ all.taken q below;
  opened = λ c below. sym (counted (opens c) steps) ∙ all.opened c below;
  built = λ c below. sym (counted (builds c) steps) ∙ all.built c below;
  settled = sym (counted takes_one (behind opens_one steps)) ∙ all.settled;
  later = λ c below. sym (counted (builds c) (behind (opens c) steps)) ∙ all.later c below;
}

pub counted-complete : {rows words channels : ℕ} {steps : List Step} → IsCounted rows words channels steps →
    IsComplete rows words channels steps
counted-complete {rows} {words} {channels} {steps} all = record {
  there = all.there;
  added = λ r below. counted (adds r) steps ∙ all.added r below;
  taken = λ q below. counted (takes q) steps ∙ all.taken q below;
  opened = λ c below. counted (opens c) steps ∙ all.opened c below;
  built = λ c below. counted (builds c) steps ∙ all.built c below;
  settled = counted takes_one (behind opens_one steps) ∙ all.settled;
  later = λ c below. counted (builds c) (behind (opens c) steps) ∙ all.later c below;
}
