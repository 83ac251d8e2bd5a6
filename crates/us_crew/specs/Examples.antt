-- Small inputs, computed by the definitions alone.
use Rattle.std.specs.Prelude.{◌≡◌, ℕ, ◌+◌, ◌*◌, ◌<◌, nat_lt, if◌then◌else◌, [], ◌∷◌, Option, None, Some, refl}
use Rattle.std.proofs.Common.{arith}
use Rattle.us_crew.specs.Values.{values_of}
use Rattle.us_crew.specs.Faults.{IsFirstFault, first_fault}
use Rattle.us_crew.specs.Cutting.{halved_parts, equal_parts}

-- an item's value may be told by its number too
doubled :
    (values_of (λ _ item. 2 * item) (1 ∷ 2 ∷ 3 ∷ 4 ∷ 5 ∷ []) ≡ 2 ∷ 4 ∷ 6 ∷ 8 ∷ 10 ∷ []) ×
    (values_of (λ number item. number + 10 * item) (7 ∷ 7 ∷ 7 ∷ []) ≡ 70 ∷ 71 ∷ 72 ∷ []) ×
    (values_of (λ _ item. 2 * item) [] ≡ [])
doubled = (refl, refl, refl)

five_among_three : (halved_parts 3 5 ≡ 2 ∷ 1 ∷ 2 ∷ []) × (equal_parts 3 5 ≡ 1 ∷ 2 ∷ 2 ∷ [])
five_among_three = (refl, refl)

-- every item above 2 is refused, with that item
abbrev refused : ℕ → ℕ → Option ℕ
refused _ item = if nat_lt 2 item then Some item else None

first_refused :
    (first_fault refused (1 ∷ 2 ∷ 3 ∷ 4 ∷ []) ≡ Some (2, 3)) ×
    (first_fault refused (4 ∷ 3 ∷ []) ≡ Some (0, 4)) ×
    (first_fault refused (1 ∷ 2 ∷ []) ≡ None)
first_refused = (refl, refl, refl)

-- the second that is refused isn't the first
abbrev FirstRefused : ℕ → ℕ → Type 0
FirstRefused = IsFirstFault (λ _ item said. (2 < item) × (said ≡ item)) (λ _ item. 2 < item) (1 ∷ 2 ∷ 3 ∷ 4 ∷ [])

not_second : ¬ FirstRefused 3 4
not_second found = found.earlier 2 3 (omega arith) refl (omega arith)
