-- What holds of items from a number on, said of the places of a list.
use Rattle.std.proofs.Common.{◌≡◌, ℕ, zero, suc, ◌+◌, ◌<◌, List, [], ◌∷◌, refl, sym, ap, ◌∙◌, subst, inl, inr, arith, Some, Result, Ok, Err, OnOk, IfErr, unwrap_or, rules}
use Rattle.std.specs.Prelude.{slice_get}
use Rattle.us_crew.specs.Faults.{IsFirstFault, AreSound, SaysFirst}
use Rattle.us_crew.specs.Parts.{EachFrom, FaultFrom, Tells}
use Rattle.us_crew.specs.declared.faults.CrewFault.{CrewFault}
use Rattle.us_crew.specs.declared.faults.CrewFault.TheVariants as fault

here : (first : ℕ) → first ≡ first + 0
here first = omega arith

next : (first place : ℕ) → first + 1 + place ≡ first + suc place
next first place = omega arith

module _ {T : Type 0} (P : ℕ → T → Type 0) where
  pub each-from_places : (first : ℕ) (xs : List T) → ((place : ℕ) (x : T) → slice_get xs place ≡ Some x → P (first + place) x) → EachFrom P first xs
  each-from_places first [] at = tt
  each-from_places first (x ∷ xs) at = (
    subst (λ n. P n x) (sym (here first)) (at 0 x refl),
    each-from_places (first + 1) xs (λ place y is. subst (λ n. P n y) (sym (next first place)) (at (suc place) y is)),
  )

  pub each-of_places : (xs : List T) → ((place : ℕ) (x : T) → slice_get xs place ≡ Some x → P place x) → EachFrom P 0 xs
  each-of_places xs at = each-from_places 0 xs (λ place x is.
      let same : place ≡ 0 + place = omega arith in subst (λ n. P n x) same (at place x is))

  pub each-at : (first : ℕ) (xs : List T) → EachFrom P first xs → (place : ℕ) (x : T) → slice_get xs place ≡ Some x → P (first + place) x
  each-at first [] each place x is = absurd (search rules)
  each-at first (y ∷ xs) each zero x is =
      let same : y ≡ x = ap (λ o. unwrap_or o y) is in subst (λ n. P n x) (here first) (subst (P first) same each.0)
  each-at first (y ∷ xs) each (suc place) x is = subst (λ n. P n x) (next first place) (each-at (first + 1) xs each.1 place x is)

  each-before : (first n : ℕ) (x : T) (xs : List T) → P first x →
      ((k : ℕ) (y : T) → k < n → slice_get xs k ≡ Some y → P (first + 1 + k) y) →
      (k : ℕ) (y : T) → k < suc n → slice_get (x ∷ xs) k ≡ Some y → P (first + k) y
  each-before first n x xs p rest zero y less is =
      let same : x ≡ y = ap (λ o. unwrap_or o x) is in subst (λ m. P m y) (here first) (subst (P first) same p)
  each-before first n x xs p rest (suc k) y less is = subst (λ m. P m y) (next first k) (rest k y (omega arith) is)

module _ {T E : Type 0} (may : ℕ → T → E → Type 0) (must : ℕ → T → Type 0) (said : E) where
  pub fault-places : (first : ℕ) (xs : List T) (number : ℕ) → FaultFrom may must first xs number said →
      (place : ℕ) × (number ≡ first + place) × IsFirstFault (λ k. may (first + k)) (λ k. must (first + k)) xs place said
  fault-places first [] number none = absurd none
  fault-places first (x ∷ xs) number (inl found) = (
    0,
    found.0 ∙ here first,
    record { item = x; stands = refl; its = subst (λ n. may n x said) (here first) found.1; earlier = λ k before less is. absurd (omega arith) },
  )
  fault-places first (x ∷ xs) number (inr later) =
      let rest = fault-places (first + 1) xs number later.1 in
      let found = rest.2 in (
        suc rest.0,
        rest.1 ∙ next first rest.0,
        record {
          item = found.item;
          stands = found.stands;
          its = subst (λ n. may n found.item said) (next first rest.0) found.its;
          earlier = each-before (λ k item. ¬ must k item) first rest.0 x xs later.0 found.earlier;
        },
      )

  -- of a whole list
  pub fault-first : (xs : List T) (number : ℕ) → FaultFrom may must 0 xs number said → IsFirstFault may must xs number said
  fault-first xs number from =
      let found = fault-places 0 xs number from in
      let same : found.0 ≡ number = omega (arith, found.1) in
      subst (λ n. IsFirstFault may must xs n said) same
      (record {
        item = found.2.item;
        stands = found.2.stands;
        its = let k : 0 + found.0 ≡ found.0 = omega arith in subst (λ n. may n found.2.item said) k found.2.its;
        earlier = λ n before less is. let k : 0 + n ≡ n = omega arith in subst (λ m. ¬ must m before) k (found.2.earlier n before less is);
      })

module _ {A T R E : Type 0} (read : A → List R) (value : ℕ → T → R) (may : ℕ → T → E → Type 0) (must : ℕ → T → Type 0) (xs : List T) where
  pub tells-sound : (result : Result A (CrewFault E)) → Tells read value may must 0 xs result → OnOk result (AreSound must xs)
  tells-sound (Ok answers) tells = λ place item is. let k : 0 + place ≡ place = omega arith in
      subst (λ n. ¬ must n item) k (each-at (λ n item. ¬ must n item) 0 xs tells.1 place item is)
  tells-sound (Err said) tells = tt

  pub tells-first : (result : Result A (CrewFault E)) → Tells read value may must 0 xs result → IfErr result (λ said. SaysFirst may must xs said)
  tells-first (Ok answers) tells = tt
  tells-first (Err fault.Workers) tells = tt
  tells-first (Err fault.NoMemory) tells = tt
  tells-first (Err (fault.Item place said)) tells = fault-first may must said xs place tells

  pub tells-workers : (result : Result A (CrewFault E)) → Tells read value may must 0 xs result → ¬ (result ≡ Err fault.Workers)
  tells-workers (Ok answers) tells = λ is. absurd (cc is)
  tells-workers (Err fault.Workers) tells = λ is. tells
  tells-workers (Err fault.NoMemory) tells = λ is. absurd (cc is)
  tells-workers (Err (fault.Item place said)) tells = λ is. absurd (cc is)
