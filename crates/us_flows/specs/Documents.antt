-- Values of a TOML document, read by functions that always have an answer.
use Rattle.std.specs.Prelude.{ℕ, pos, Bool, false, List, [], ◌∷◌, Option, Some, None}
use Rattle.toml.specs.Data.{Data, integer, boolean, array, table, Items, no_items, item, Members, no_members, get_member, get_item}

-- a whole number from 0 on; 0 for all other values
abbrev pub number_of : Data → ℕ
number_of (integer (pos n)) = n
number_of _ = 0

abbrev pub flag_of : Data → Bool
flag_of (boolean b) = b
flag_of _ = false

-- the items of a list
abbrev pub items_of : Data → Items
items_of (array ds) = ds
items_of _ = no_items

abbrev pub table_of : Data → Members
table_of (table ms) = ms
table_of _ = no_members

abbrev pub numbers_of : Items → List ℕ
numbers_of no_items = []
numbers_of (item d ds) = number_of d ∷ numbers_of ds

abbrev pub lists_of : Items → List (List ℕ)
lists_of no_items = []
lists_of (item d ds) = numbers_of (items_of d) ∷ lists_of ds

-- what is read of a value, or of none
abbrev pub read_or : {A : Type 0} → A → (Data → A) → Option Data → A
read_or none read (Some d) = read d
read_or none read None = none

-- the value of a key, read
abbrev pub number_at : List ℕ → Members → ℕ
number_at key t = read_or 0 number_of (get_member key t)

abbrev pub flag_at : List ℕ → Members → Bool
flag_at key t = read_or false flag_of (get_member key t)

abbrev pub items_at : List ℕ → Members → Items
items_at key t = read_or no_items items_of (get_member key t)

abbrev pub table_at : List ℕ → Members → Members
table_at key t = read_or no_members table_of (get_member key t)

-- the number at a place of a list
abbrev pub number_in : ℕ → Items → ℕ
number_in index ds = read_or 0 number_of (get_item index ds)

-- the first two numbers of a list
abbrev pub pair_at : List ℕ → Members → List ℕ
pair_at key t = number_in 0 (items_at key t) ∷ number_in 1 (items_at key t) ∷ []
