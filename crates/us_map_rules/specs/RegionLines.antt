-- The MAPs that lines are for.
use Rattle.std.specs.Prelude.{ℕ, ◌+◌, ◌*◌, ◌==◌, nat_le, nat_lt, if◌then◌else◌, Bool, true, List, length, filter_map, position, Option, Some, None, option_map}
use Rattle.us_flows.specs.Tables.{Tables}
use Rattle.us_output.specs.declared.rows.Row.{Row}
use Rattle.us_output.specs.declared.rows.Row.TheVariants as rows
use Rattle.us_lawful.specs.Regions.{Region, region_of}

-- the number of a MAP: by round, and then by channel
abbrev pub map_number : Tables → ℕ → ℕ → ℕ
map_number t round place = round * length t.channels + place

-- that of a round and the channel of this id, if the run has both
abbrev pub map_at : Tables → ℕ → ℕ → ℕ → Option ℕ
map_at t rounds round channel =
    if nat_lt round rounds then option_map (map_number t round) (position (λ c. c.id == channel) t.channels) else None

-- minislots of the MAP of a number
pub record PlacedRegion : Type 0 where
  pub map : ℕ
  pub region : Region

-- those of a G line whose round and channel the run has
abbrev pub placed_line : Tables → ℕ → Row → Option PlacedRegion
placed_line t rounds (rows.Granted g) =
    option_map (λ map. record { map = map; region = region_of g }) (map_at t rounds g.round g.channel)
placed_line t rounds _ = None

abbrev pub placed_lines : Tables → ℕ → List Row → List PlacedRegion
placed_lines t rounds lines = filter_map (placed_line t rounds) lines

-- a line is of the MAP of this number or of one behind it, or of none
abbrev pub is_behind : ℕ → Option PlacedRegion → Bool
is_behind number None = true
is_behind number (Some q) = nat_le number q.map

-- and behind it the number is that of its MAP
abbrev pub number_behind : ℕ → Option PlacedRegion → ℕ
number_behind number None = number
number_behind number (Some q) = q.map

abbrev pub comes_next : Tables → ℕ → ℕ → Row → Bool
comes_next t rounds number line = is_behind number (placed_line t rounds line)
