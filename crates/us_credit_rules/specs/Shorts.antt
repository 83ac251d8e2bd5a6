-- The first round in which something is credited that isn't there.
use Rattle.std.specs.Prelude.{◌≡◌, ℕ, ◌<◌, Bool, true, false, if◌then◌else◌, Option, Some, None}
use Rattle.us_reports.specs.declared.place.Place.{Place}

-- the first of so many rounds in which a test fails
abbrev pub IsFirstRound : ℕ → (ℕ → Bool) → Option ℕ → Type 0
IsFirstRound rounds test None = (round : ℕ) → round < rounds → test round ≡ true
IsFirstRound rounds test (Some first) =
    (first < rounds) × (test first ≡ false) × ((round : ℕ) → round < first → test round ≡ true)

-- of rounds that are noted one after another, the first that lacks something
abbrev pub short_then : ℕ → Bool → Option ℕ → Option ℕ
short_then round short (Some first) = Some first
short_then round short None = if short then Some round else None

-- the place of a flow in a round, over all channels
abbrev pub flow_place : ℕ → Option ℕ → Option Place
flow_place id None = None
flow_place id (Some round) = Some (record { round = round; channel = 0; third = id })
