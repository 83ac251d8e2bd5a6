-- What is answered where all goes well: the value of each item, each once, in the order of the items.
use Rattle.std.specs.Prelude.{ℕ, ◌+◌, List, [], ◌∷◌}

-- `value` says what an item's value is, at its number; the first of these items has the number `first`
abbrev pub values_from : {T R : Type 0} → (ℕ → T → R) → ℕ → List T → List R
values_from value first [] = []
values_from value first (item ∷ items) = value first item ∷ values_from value (first + 1) items

abbrev pub values_of : {T R : Type 0} → (ℕ → T → R) → List T → List R
values_of value items = values_from value 0 items
