-- Of items that stand side by side in a list, from the number `first` on.
use Rattle.std.specs.Prelude.{◌≡◌, ℕ, ◌+◌, List, [], ◌∷◌, ◌++◌, Result, Ok, Err, ⊤, ◌⊎◌}
use Rattle.us_crew.specs.Values.{values_from}
use Rattle.us_crew.specs.declared.faults.CrewFault.{CrewFault}
use Rattle.us_crew.specs.declared.faults.CrewFault.TheVariants as fault

-- `holds` of each item at its number
abbrev pub EachFrom : {T : Type 0} → (ℕ → T → Type 0) → ℕ → List T → Type 0
EachFrom holds first [] = ⊤
EachFrom holds first (item ∷ items) = holds first item × EachFrom holds (first + 1) items

-- each item meets the work's condition, once the gate was entered for it
abbrev pub AreReady : {T : Type 0} → (ℕ → Type 0) → (ℕ → T → Type 0) → ℕ → List T → Type 0
AreReady entered accepts first items = EachFrom (λ k item. entered k → accepts k item) first items

-- the item of this number may have this fault, and none before it has one of its own
abbrev pub FaultFrom : {T E : Type 0} → (ℕ → T → E → Type 0) → (ℕ → T → Type 0) → ℕ → List T → ℕ → E → Type 0
FaultFrom may must first [] place said = ⊥
FaultFrom may must first (item ∷ items) place said =
    ((place ≡ first) × may first item said) ⊎ ((¬ must first item) × FaultFrom may must (first + 1) items place said)

-- what is answered for these items; `read` gives the list of answers
abbrev pub Tells : {A T R E : Type 0} → (A → List R) → (ℕ → T → R) → (ℕ → T → E → Type 0) → (ℕ → T → Type 0) → ℕ →
    List T → Result A (CrewFault E) → Type 0
Tells read value may must first items (Ok answers) =
    (read answers ≡ values_from value first items) × EachFrom (λ k item. ¬ must k item) first items
Tells read value may must first items (Err (fault.Item place said)) = FaultFrom may must first items place said
Tells read value may must first items (Err fault.NoMemory) = ⊤
Tells read value may must first items (Err fault.Workers) = ⊥

-- what is answered for two parts of a list, one after the other, of what is answered for each: both lists of answers,
-- or the first fault
abbrev pub Together : {A R E : Type 0} → (A → List R) → Result A (CrewFault E) → Result A (CrewFault E) →
    Result A (CrewFault E) → Type 0
Together read (Err said) second result = result ≡ Err said
Together read (Ok front) (Err said) result = result ≡ Err said
Together read (Ok front) (Ok back) (Ok all) = read all ≡ read front ++ read back
Together read (Ok front) (Ok back) (Err said) = said ≡ fault.NoMemory
