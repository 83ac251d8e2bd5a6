-- What is answered for two parts of a list, one after the other, is answered for the list.
use Rattle.std.proofs.Common.{◌≡◌, ℕ, suc, ◌+◌, List, [], ◌∷◌, ◌++◌, length, sym, ap, ◌∙◌, subst, inl, inr, arith, Result, Ok, Err}
use Rattle.us_crew.specs.Values.{values_from}
use Rattle.us_crew.specs.Parts.{EachFrom, FaultFrom, Tells, Together}
use Rattle.us_crew.specs.declared.faults.CrewFault.{CrewFault}
use Rattle.us_crew.specs.declared.faults.CrewFault.TheVariants as fault

next_number : (first n : ℕ) → first + suc n ≡ first + 1 + n
next_number first n = omega arith

pub values-append : {T R : Type 0} (value : ℕ → T → R) (first : ℕ) (xs ys : List T) →
    values_from value first (xs ++ ys) ≡ values_from value first xs ++ values_from value (first + length xs) ys
values-append value first [] ys = let same : first ≡ first + 0 = omega arith in ap (λ n. values_from value n ys) same
values-append value first (x ∷ xs) ys =
    let later = ap (λ n. values_from value (first + 1) xs ++ values_from value n ys) (sym (next_number first (length xs))) in
    ap (λ answers. value first x ∷ answers) (values-append value (first + 1) xs ys ∙ later)

module _ {T : Type 0} (P : ℕ → T → Type 0) where
  pub each-front : (first : ℕ) (xs ys : List T) → EachFrom P first (xs ++ ys) → EachFrom P first xs
  each-front first [] ys each = tt
  each-front first (x ∷ xs) ys each = (each.0, each-front (first + 1) xs ys each.1)

  pub each-back : (first : ℕ) (xs ys : List T) → EachFrom P first (xs ++ ys) → EachFrom P (first + length xs) ys
  each-back first [] ys each = let same : first ≡ first + 0 = omega arith in subst (λ n. EachFrom P n ys) same each
  each-back first (x ∷ xs) ys each = subst (λ n. EachFrom P n ys) (sym (next_number first (length xs))) (each-back (first + 1) xs ys each.1)

  pub each-append : (first : ℕ) (xs ys : List T) → EachFrom P first xs → EachFrom P (first + length xs) ys → EachFrom P first (xs ++ ys)
  each-append first [] ys front back = let same : first + 0 ≡ first = omega arith in subst (λ n. EachFrom P n ys) same back
  each-append first (x ∷ xs) ys front back =
      (front.0, each-append (first + 1) xs ys front.1 (subst (λ n. EachFrom P n ys) (next_number first (length xs)) back))

module _ {T E : Type 0} (may : ℕ → T → E → Type 0) (must : ℕ → T → Type 0) (place : ℕ) (said : E) where
  pub fault-front : (first : ℕ) (xs ys : List T) → FaultFrom may must first xs place said → FaultFrom may must first (xs ++ ys) place said
  fault-front first [] ys none = absurd none
  fault-front first (x ∷ xs) ys (inl here) = inl here
  fault-front first (x ∷ xs) ys (inr later) = inr (later.0, fault-front (first + 1) xs ys later.1)

  pub fault-back : (first : ℕ) (xs ys : List T) → EachFrom (λ k item. ¬ must k item) first xs →
      FaultFrom may must (first + length xs) ys place said → FaultFrom may must first (xs ++ ys) place said
  fault-back first [] ys sound there = let same : first + 0 ≡ first = omega arith in subst (λ n. FaultFrom may must n ys place said) same there
  fault-back first (x ∷ xs) ys sound there =
      inr (sound.0, fault-back (first + 1) xs ys sound.1 (subst (λ n. FaultFrom may must n ys place said) (next_number first (length xs)) there))

module _ {A T R E : Type 0} (read : A → List R) (value : ℕ → T → R) (may : ℕ → T → E → Type 0) (must : ℕ → T → Type 0) where
  pub tells-together : (first : ℕ) (xs ys : List T) (front back both : Result A (CrewFault E)) →
      Tells read value may must first xs front → Tells read value may must (first + length xs) ys back → Together read front back both → Tells read value may must first (xs ++ ys) both
  tells-together first xs ys (Err fault.Workers) back both f b is = absurd f
  tells-together first xs ys (Err fault.NoMemory) back both f b is = subst (Tells read value may must first (xs ++ ys)) (sym is) tt
  tells-together first xs ys (Err (fault.Item place said)) back both f b is =
      subst (Tells read value may must first (xs ++ ys)) (sym is) (fault-front may must place said first xs ys f)
  tells-together first xs ys (Ok answers) (Err fault.Workers) both f b is = absurd b
  tells-together first xs ys (Ok answers) (Err fault.NoMemory) both f b is = subst (Tells read value may must first (xs ++ ys)) (sym is) tt
  tells-together first xs ys (Ok answers) (Err (fault.Item place said)) both f b is =
      subst (Tells read value may must first (xs ++ ys)) (sym is) (fault-back may must place said first xs ys f.1 b)
  tells-together first xs ys (Ok answers) (Ok others) (Err said) f b is = subst (λ s. Tells read value may must first (xs ++ ys) (Err s)) (sym is) tt
  tells-together first xs ys (Ok answers) (Ok others) (Ok all) f b is = (
    is ∙ ap (λ front. front ++ read others) f.0 ∙ ap (λ back. values_from value first xs ++ back) b.0 ∙ sym (values-append value first xs ys),
    each-append (λ k item. ¬ must k item) first xs ys f.1 b.1,
  )
