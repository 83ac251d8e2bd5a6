-- P2, of one MAP more: which is the first that isn't that of the run.
use Rattle.std.specs.Prelude.{◌≡◌, ℕ, slice_get, Option, Some, None}
use Rattle.us_lawful.specs.Runs.{Run}
use Rattle.us_lawful.specs.Headings.{Heading, headings_of}
use Rattle.us_map_rules.specs.declared.maps_reading.MapHeading.{MapHeading}

-- what a MAP says of itself, as it is read
abbrev pub heading_read : MapHeading → Heading
heading_read h = record { round = h.round; head = h.head; len = Some h.len }

-- it is what the MAP of this number in the run must say
abbrev pub IsThatOf : Run → ℕ → Heading → Type 0
IsThatOf run number h = slice_get (headings_of run) number ≡ Some h

-- what is known stays, and else it is this one, if it isn't that of its number
abbrev pub IsOtherWith : Run → ℕ → Heading → Option ℕ → Option ℕ → Type 0
IsOtherWith run number h (Some n) next = next ≡ Some n
IsOtherWith run number h None None = IsThatOf run number h
IsOtherWith run number h None (Some n) = (n ≡ number) × (IsThatOf run number h → ⊥)
