-- Inside the crate: the values of a flow's keys, as one walk over its table finds them. Each stands at the place that its
-- key's name has among the keys of all flows; of two keys with one name the first has it.
use Rattle.std.specs.Prelude.{◌≡◌, ℕ, zero, suc, ◌+◌, Bool, if◌then◌else◌, List, [], ◌∷◌, Option, Some, None, option_map, slice_index_or}
use Rattle.std.specs.Borrow.{Bor}
use Rattle.std.specs.Str.{bytes_eq}
use Rattle.toml.specs.Data.{Data, Members, get_member}
use Rattle.toml.specs.View.{view}
use Rattle.toml.specs.declared.value.Value.{Value}
use Rattle.us_flows.specs.declared.flows.SchedulingType.{SchedulingType}
use Rattle.us_flows.specs.Keys.{FlowKey, all_flow_keys, flow_keys}
use Rattle.us_flows.specs.Shapes.{strays}
use Rattle.us_flows.specs.Reading.{kind_at}

-- the place of the first key with a name, in a list of keys of which the first has this place
abbrev pub place_from : ℕ → List FlowKey → List ℕ → Option ℕ
place_from place [] name = None
place_from place (key ∷ keys) name = if bytes_eq key.0 name then Some place else place_from (place + 1) keys name

-- and among those of all flows
abbrev pub place_of : List ℕ → Option ℕ
place_of name = place_from 0 all_flow_keys name

-- the name of the key at a place of a list
abbrev pub name_in : List FlowKey → ℕ → List ℕ
name_in [] place = []
name_in (key ∷ keys) zero = key.0
name_in (key ∷ keys) (suc place) = name_in keys place

-- and among the keys of all flows
abbrev pub name_at : ℕ → List ℕ
name_at place = name_in all_flow_keys place

-- what was found for a place
abbrev pub value_in : List (Option (Bor Value)) → ℕ → Option Data
value_in values place = option_map (λ value. view value.now) (slice_index_or values place None)

-- what was found is what the table has, and each stands at a place that its name leads to
pub record AreFound (values : List (Option (Bor Value))) (t : Members) : Type 0 where
  pub found : (name : List ℕ) (place : ℕ) → place_of name ≡ Some place → value_in values place ≡ get_member name t
  pub first : (place : ℕ) (d : Data) → value_in values place ≡ Some d → place_of (name_at place) ≡ Some place

-- and what the walk tells beside: the type, and whether a key or a value is none that a flow of this type has
pub record AreValuesOf (kind : SchedulingType) (values : List (Option (Bor Value))) (stray : Bool) (t : Members) : Type 0 where
  pub typed : kind ≡ kind_at t
  pub found : AreFound values t
  pub strays : stray ≡ strays (flow_keys (kind_at t)) t
