-- The first of places, and those behind the last round of a run.
use Rattle.std.specs.Prelude.{ℕ, Bool, if◌then◌else◌, List, fold, Option, Some, None}
use Rattle.us_flows.specs.declared.channels.Channel.{Channel}
use Rattle.us_reports.specs.declared.place.Place.{Place}
use Rattle.us_reports.specs.Order.{earlier}

-- that of a flow
abbrev pub end_place : ℕ → ℕ → Place
end_place rounds id = record { round = rounds; channel = 0; third = id }

-- the place that goes before others, of those of items
abbrev pub first_of : {X : Type 0} → List Channel → (X → Option Place) → List X → Option Place
first_of channels place items = fold (λ first item. earlier channels first (place item)) None items

-- a place at which a test has to pass
abbrev pub unless : Bool → Place → Option Place
unless holds at = if holds then None else Some at
