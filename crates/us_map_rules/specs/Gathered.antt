-- The rule of minislots, told one line after another: MAPs go by their numbers, by round and then by channel.
use Rattle.std.specs.Prelude.{◌≡◌, ℕ, ◌*◌, ◌/◌, ◌%◌, ◌<◌, ◌≤◌, ◌==◌, Bool, true, false, List, ◌++◌, length, map, filter, slice_get, slice_index_or, drop, Option, Some, None}
use Rattle.std.specs.List.{AllByRecursion}
use Rattle.us_flows.specs.declared.channels.Channel.{Channel}
use Rattle.us_flows.specs.Tables.{Tables, map_len}
use Rattle.us_output.specs.declared.rows.Row.{Row}
use Rattle.us_lawful.specs.Runs.{Run, RoundMap}
use Rattle.us_reports.specs.declared.place.Place.{Place}
use Rattle.us_reports.specs.Breaches.{IsFirstFailure}
use Rattle.us_lawful.specs.Regions.{Region, map_regions, minislot_holds, reserve_regions}
use Rattle.us_map_rules.specs.declared.gathered.MapRegions.{MapRegions}
use Rattle.us_map_rules.specs.declared.gathered.Taken.{Taken}
use Rattle.us_map_rules.specs.declared.gathered.Taken.TheVariants as taken
use Rattle.us_map_rules.specs.LackedPlaces.{IsOfLackedPlace}
use Rattle.us_map_rules.specs.MapsReading.{IsMapsOf}
use Rattle.us_map_rules.specs.Minislots.{IsFirstFailing}
use Rattle.us_map_rules.specs.RegionLines.{PlacedRegion, comes_next, placed_lines}

-- At a minislot of the MAP of a number: its channel, with the minislots of its lines and its elements,
abbrev pub channel_holds : Tables → ℕ → List Region → List Region → Option Channel → ℕ → Bool
channel_holds t number lines pieces None at = true
channel_holds t number lines pieces (Some c) at =
    minislot_holds c (map_len t c) (reserve_regions t (number / length t.channels) c ++ lines) pieces at

-- which stands in the table where the number says,
abbrev pub number_holds : Tables → ℕ → List Region → List Region → ℕ → Bool
number_holds t number lines pieces at =
    channel_holds t number lines pieces (slice_get t.channels (number % length t.channels)) at

-- and the lines are those of this MAP
abbrev pub lines_of : ℕ → List PlacedRegion → List Region
lines_of number placed = map (λ q. q.region) (filter (λ q. q.map == number) placed)

abbrev pub map_holds : Tables → List RoundMap → List PlacedRegion → ℕ → ℕ → Bool
map_holds t maps placed number at =
    number_holds t number (lines_of number placed) (map_regions (slice_get maps number)) at

-- Of MAPs before one: a test passes at each minislot; or it fails first in this MAP at this minislot.
abbrev pub IsFirstBefore : (ℕ → ℕ → Bool) → ℕ → Option (ℕ × ℕ) → Type 0
IsFirstBefore holds number None = (n : ℕ) → n < number → (at : ℕ) → holds n at ≡ true
IsFirstBefore holds number (Some first) =
    (first.0 < number) × IsFirstFailing (holds first.0) (Some first.1)
    × ((n : ℕ) → n < first.0 → (at : ℕ) → holds n at ≡ true)

-- the same with one MAP more: what is known stays, and else it is that of this one
abbrev pub IsFirstWith : (ℕ → Bool) → ℕ → Option (ℕ × ℕ) → Option (ℕ × ℕ) → Type 0
IsFirstWith holds number (Some first) next = next ≡ Some first
IsFirstWith holds number None None = IsFirstFailing holds None
IsFirstWith holds number None (Some next) = (next.0 ≡ number) × IsFirstFailing holds (Some next.1)

-- A state to which minislots of lines are told in the order of MAPs: none is of a MAP behind its number; those of that MAP are
-- kept; of the MAPs before it the first minislot that isn't what it must be is; and the MAPs from it on are left of the file.
pub record AreGathered (t : Tables) (rounds : ℕ) (bytes : List ℕ) (maps : List RoundMap) (placed : List PlacedRegion)
    (number at : ℕ) (regions : List Region) (first : Option (ℕ × ℕ)) : Type 0 where
  pub within : number ≤ rounds * length t.channels
  pub none_later : AllByRecursion (λ q. q.map ≤ number) placed
  pub kept : regions ≡ lines_of number placed
  pub judged : IsFirstBefore (map_holds t maps placed) number first
  pub left : IsMapsOf (drop at bytes) (drop number maps)

abbrev pub IsStateOf : Tables → ℕ → List ℕ → List RoundMap → List PlacedRegion → MapRegions → Type 0
IsStateOf t rounds bytes maps placed s =
    AreGathered t rounds bytes maps placed s.number s.at s.regions.items s.first

-- these lines are told, beside the MAPs of a file
abbrev pub AreTold : Run → List ℕ → List RoundMap → List Row → MapRegions → Type 0
AreTold run bytes maps lines s =
    IsStateOf run.tables run.rounds bytes maps (placed_lines run.tables run.rounds lines) s

-- What is answered of a line: whether it is told,
abbrev pub is_told : Taken → Bool
is_told taken.Late = false
is_told _ = true

-- the place that the run lacks,
abbrev pub lacked_told : Taken → Option Place
lacked_told (taken.Lacked place) = Some place
lacked_told _ = None

-- what is answered of a line, where lines of the MAP of this number come
pub record IsTaken (run : Run) (number : ℕ) (line : Row) (answer : Taken) : Type 0 where
  pub told : is_told answer ≡ comes_next run.tables run.rounds number line
  pub lacked : IsFirstFailure run.tables.channels (IsOfLackedPlace run line) (lacked_told answer)

-- a minislot of the MAP of a number, as a place
pub record IsPlaceIn (channels : List Channel) (number third : ℕ) (place : Place) : Type 0 where
  pub round : place.round ≡ number / length channels
  pub channel : (d : Channel) → place.channel ≡ (slice_index_or channels (number % length channels) d).id
  pub third_is : place.third ≡ third
