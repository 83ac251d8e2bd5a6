-- Where the faults of items are a function, so is what is answered.
use Rattle.std.proofs.Common.{◌≡◌, ℕ, ◌+◌, List, [], ◌∷◌, refl, sym, ap, inl, inr, Option, None, Some, IsSome, Result, Ok, Err}
use Rattle.us_crew.specs.Faults.{AreFaults, NamesFault, first_fault_from}
use Rattle.us_crew.specs.Parts.{EachFrom, FaultFrom, Tells}
use Rattle.us_crew.specs.declared.faults.CrewFault.{CrewFault}
use Rattle.us_crew.specs.declared.faults.CrewFault.TheVariants as fault

none_unless : {E : Type 0} (o : Option E) → ¬ IsSome o → o ≡ None
none_unless None without = refl
none_unless (Some said) without = absurd (without refl)

module _ {T E : Type 0} (fault_of : ℕ → T → Option E) (may : ℕ → T → E → Type 0) (must : ℕ → T → Type 0)
    (are : AreFaults fault_of may must) where
  has_none : (k : ℕ) (item : T) → ¬ must k item → fault_of k item ≡ None
  has_none k item sound = none_unless (fault_of k item) (λ some. sound (are.always k item some))

  none-first : (first : ℕ) (xs : List T) → EachFrom (λ k item. ¬ must k item) first xs → first_fault_from fault_of first xs ≡ None
  none-first first [] sound = refl
  none-first first (x ∷ xs) sound = rw (has_none first x sound.0) (none-first (first + 1) xs sound.1)

  some-first : (first : ℕ) (xs : List T) (place : ℕ) (said : E) → FaultFrom may must first xs place said →
      first_fault_from fault_of first xs ≡ Some (place, said)
  some-first first [] place said none = absurd none
  some-first first (x ∷ xs) place said (inl here) =
      rw (are.only first x said here.1) (ap {B = Option (ℕ × E)} (λ n. Some (n, said)) (sym here.0))
  some-first first (x ∷ xs) place said (inr later) = rw (has_none first x later.0) (some-first (first + 1) xs place said later.1)

  pub tells-named : {A R : Type 0} (read : A → List R) (value : ℕ → T → R) (xs : List T) (result : Result A (CrewFault E)) →
      Tells read value may must 0 xs result → NamesFault (first_fault_from fault_of 0 xs) result
  tells-named read value xs (Ok answers) tells = none-first 0 xs tells.1
  tells-named read value xs (Err fault.Workers) tells = tt
  tells-named read value xs (Err fault.NoMemory) tells = tt
  tells-named read value xs (Err (fault.Item place said)) tells = some-first 0 xs place said tells
