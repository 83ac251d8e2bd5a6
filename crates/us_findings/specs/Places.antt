-- Places in a text.
use Rattle.std.specs.Prelude.{ℕ, ◌≤◌}
use Rattle.us_findings.specs.declared.spots.Spot.{Spot}

-- a spot lies in a text of so many bytes
pub record IsWithin (len : ℕ) (spot : Spot) : Type 0 where
  pub at : spot.at ≤ len
  pub from : spot.from ≤ spot.to
  pub to : spot.to ≤ len
