-- What is answered where an item has a fault: the first such item, and its fault.
use Rattle.std.specs.Prelude.{◌≡◌, ℕ, ◌+◌, ◌<◌, List, [], ◌∷◌, slice_get, Option, None, Some, IsSome, option_map, Result, Ok, Err, ⊤}
use Rattle.std.specs.Option.{option_or}
use Rattle.us_crew.specs.declared.faults.CrewFault.{CrewFault}
use Rattle.us_crew.specs.declared.faults.CrewFault.TheVariants as fault

-- `may` says which faults may be answered for an item at its number, and `must` whether it has a fault of its own, so
-- that no value is answered for it

-- the item at this place may have this fault, and no earlier item has one of its own
pub record IsFirstFault {T E : Type 0} (may : ℕ → T → E → Type 0) (must : ℕ → T → Type 0) (items : List T)
    (place : ℕ) (said : E) : Type 0 where
  pub item : T
  pub stands : slice_get items place ≡ Some item
  pub its : may place item said
  pub earlier : (k : ℕ) (before : T) → k < place → slice_get items k ≡ Some before → ¬ must k before

-- no item has a fault of its own
abbrev pub AreSound : {T : Type 0} → (ℕ → T → Type 0) → List T → Type 0
AreSound must items = (place : ℕ) (item : _) → slice_get items place ≡ Some item → ¬ must place item

-- what a fault of the call says of the items
abbrev pub SaysFirst : {T E : Type 0} → (ℕ → T → E → Type 0) → (ℕ → T → Type 0) → List T → CrewFault E → Type 0
SaysFirst may must items fault.Workers = ⊤
SaysFirst may must items fault.NoMemory = ⊤
SaysFirst may must items (fault.Item place said) = IsFirstFault may must items place said

-- Where faults are a function: `fault_of` says of an item at its number which fault it has, if any.

-- the first item that has a fault, by its number, and that fault
abbrev pub first_fault_from : {T E : Type 0} → (ℕ → T → Option E) → ℕ → List T → Option (ℕ × E)
first_fault_from fault_of first [] = None
first_fault_from fault_of first (item ∷ items) =
    option_or (option_map (λ said. (first, said)) (fault_of first item)) (first_fault_from fault_of (first + 1) items)

abbrev pub first_fault : {T E : Type 0} → (ℕ → T → Option E) → List T → Option (ℕ × E)
first_fault fault_of items = first_fault_from fault_of 0 items

-- a work answers for each item the fault that the function says, and no other
pub record AreFaults {T E : Type 0} (fault_of : ℕ → T → Option E) (may : ℕ → T → E → Type 0) (must : ℕ → T → Type 0)
    : Type 0 where
  pub only : (k : ℕ) (item : T) (said : E) → may k item said → fault_of k item ≡ Some said
  pub always : (k : ℕ) (item : T) → IsSome (fault_of k item) → must k item

-- what is answered where this is the first fault
abbrev pub NamesFault : {A E : Type 0} → Option (ℕ × E) → Result A (CrewFault E) → Type 0
NamesFault first (Ok _) = first ≡ None
NamesFault first (Err (fault.Item place said)) = first ≡ Some (place, said)
NamesFault first (Err fault.NoMemory) = ⊤
NamesFault first (Err fault.Workers) = ⊤
