-- What has a plan (ours): one round's, and a planner that plans one round after another by what is made once of the tables.
use Rattle.std.specs.Prelude.{ℕ, List, [], map}
use Rattle.us_flows.specs.Tables.{Tables}
use Rattle.us_split.specs.Claims.{Claim}

-- the claims on each channel, and the bytes that are taken of the reserve of each flow
pub record RoundPlan : Type 0 where
  pub claims : List (List Claim)
  pub reserved : List ℕ

-- the tables that turns are planned by, and the claims on each channel
pub record Planner : Type 0 where
  pub tables : Tables
  pub claims : List (List Claim)

-- before the first round
abbrev pub before_planning : Tables → Planner
before_planning t = record { tables = t; claims = map (λ c. []) t.channels }
