-- The shape of one table: the keys that it has to have, and what their values may be.
use Rattle.std.specs.Prelude.{ℕ, ◌+◌, pos, Bool, true, false, not, ◌==◌, ◌&&◌, ◌||◌, if◌then◌else◌, List, [], ◌∷◌, is_none}
use Rattle.std.specs.Int.{is_in_range}
use Rattle.std.specs.Str.{bytes_eq}
use Rattle.toml.specs.Data.{Data, integer, boolean, array, table, Items, no_items, item, Members, no_members, member, get_member}
use Rattle.us_flows.specs.declared.keys.Rule.{Rule}
use Rattle.us_flows.specs.declared.keys.Rule.TheVariants as rule
use Rattle.us_flows.specs.Keys.{Key}

-- a whole number in the range
abbrev pub is_number : ℕ → ℕ → Data → Bool
is_number least most (integer (pos n)) = is_in_range least most n
is_number least most _ = false

-- 2, 3, 4, 5 or 6, as the standard numbers scheduling types
abbrev pub is_type : Data → Bool
is_type (integer (pos n)) = n == 2 || (n == 3 || (n == 4 || (n == 5 || n == 6)))
is_type _ = false

-- 1, 2, 4, 8 or 16
abbrev pub is_unit : Data → Bool
is_unit (integer (pos n)) = n == 1 || (n == 2 || (n == 4 || (n == 8 || n == 16)))
is_unit _ = false

abbrev pub is_flag : Data → Bool
is_flag (boolean b) = true
is_flag _ = false

abbrev pub is_table : Data → Bool
is_table (table ms) = true
is_table _ = false

-- how many items there are, and whether each passes a test
abbrev pub count : Items → ℕ
count no_items = 0
count (item d ds) = 1 + count ds

abbrev pub all_items : (Data → Bool) → Items → Bool
all_items passes no_items = true
all_items passes (item d ds) = passes d && all_items passes ds

-- a list of so many items that each pass a test
abbrev pub is_list : ℕ → ℕ → (Data → Bool) → Data → Bool
is_list fewest most passes (array ds) = is_in_range fewest most (count ds) && all_items passes ds
is_list fewest most passes _ = false

-- a list, of any length, of numbers in the range
abbrev pub is_number_list : ℕ → ℕ → Data → Bool
is_number_list least most (array ds) = all_items (is_number least most) ds
is_number_list least most _ = false

-- a value keeps a rule
abbrev pub keeps : Rule → Data → Bool
keeps (rule.Number least most) d = is_number least most d
keeps (rule.OptionalNumber least most) d = is_number least most d
keeps rule.Type d = is_type d
keeps rule.Unit d = is_unit d
keeps rule.Flag d = is_flag d
keeps (rule.Numbers fewest many least most) d = is_list fewest many (is_number least most) d
keeps (rule.Lists fewest many least most) d = is_list fewest many (is_number_list least most) d
keeps rule.Table d = is_table d
keeps (rule.Tables fewest many) d = is_list fewest many is_table d

-- a key of this rule may be left out
abbrev pub is_optional : Rule → Bool
is_optional (rule.OptionalNumber least most) = true
is_optional (rule.Tables fewest many) = fewest == 0
is_optional _ = false

-- a key is listed, and its value keeps its rule
abbrev pub allows : List Key → List ℕ → Data → Bool
allows [] name d = false
allows (key ∷ keys) name d = if bytes_eq key.0 name then keeps key.1 d else allows keys name d

-- a table lacks a key that it has to have
abbrev pub lacks : List Key → Members → Bool
lacks [] t = false
lacks (key ∷ keys) t = (is_none (get_member key.0 t) && not (is_optional key.1)) || lacks keys t

-- a table has a key that isn't listed, or one whose value breaks its rule
abbrev pub strays : List Key → Members → Bool
strays keys no_members = false
strays keys (member name d t) = not (allows keys name d) || strays keys t
