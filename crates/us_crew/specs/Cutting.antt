-- How many items each worker gets, in the order of the items.
use Rattle.std.specs.Prelude.{ℕ, zero, suc, ◌-◌, ◌/◌, nat_lt, ◌||◌, if◌then◌else◌, List, [], ◌∷◌, ◌++◌}

-- half of the workers have half of the items, and so on, down to one worker or one item; halved so many times at most
abbrev pub halved : ℕ → ℕ → ℕ → List ℕ
halved zero workers items = items ∷ []
halved (suc times) workers items = if nat_lt workers 2 || nat_lt items 2 then items ∷ [] else
    halved times (workers / 2) (items / 2) ++ halved times (workers - workers / 2) (items - items / 2)

abbrev pub halved_parts : ℕ → ℕ → List ℕ
halved_parts workers items = halved workers workers items

-- so many parts as equal as can be: each has its share of what is left for it and those behind it
abbrev pub equal_parts : ℕ → ℕ → List ℕ
equal_parts zero items = []
equal_parts (suc others) items = items / suc others ∷ equal_parts others (items - items / suc others)
