-- What the rounds of a schedule plan first of a flow with a minimum rate. No bucket is mentioned here.
use Rattle.std.specs.Prelude.{◌≡◌, ℕ, ◌≤◌, ◌<◌, List, [], ◌∷◌, ◌++◌, map, take, slice_get, slice_index, Some}
use Rattle.us_flows.specs.Tables.{Tables, FlowTable}
use Rattle.us_flows.specs.Lawful.{AreTables}
use Rattle.us_bucket.specs.Levels.{reserve_in}
use Rattle.us_bucket.specs.Allowances.{Limit, KeepsBound}
use Rattle.us_round.specs.Rounds.{State, opening, reserved_in}
use Rattle.us_round.specs.ScheduleLaws.{begun_rounds, AreCuts}

-- the limit of a flow's minimum rate
abbrev pub min_limit : Tables → FlowTable → Limit
min_limit t flow = record { rate = flow.min_rate; burst = flow.burst; round_ticks = t.round_ticks }

-- what is planned first of the flow at a place, round by round
abbrev pub first_shares : Tables → List (List ℕ) → ℕ → List ℕ
first_shares t cuts place = map (λ s. reserved_in s place) (begun_rounds (opening t) cuts)

-- the greatest number of bytes that, planned first behind rounds with these, keeps the bound
pub record IsMostNext (limit : Limit) (before : List ℕ) (most : ℕ) : Type 0 where
  pub keeps : KeepsBound limit (before ++ most ∷ [])
  pub greatest : (bytes : ℕ) → KeepsBound limit (before ++ bytes ∷ []) → bytes ≤ most

-- what is planned first of a flow keeps the bound of its minimum rate over every span of rounds, and its reserve is in each
-- round the most that keeps it behind the rounds before
pub record KeepsMinimum (t : Tables) (cuts : List (List ℕ)) (place : ℕ) (flow : FlowTable) : Type 0 where
  pub keeps : KeepsBound (min_limit t flow) (first_shares t cuts place)
  pub most : (round : ℕ) (s : State) → slice_get (begun_rounds (opening t) cuts) round ≡ Some s →
      IsMostNext (min_limit t flow) (take round (first_shares t cuts place)) (slice_index (map reserve_in s.reserves) place)

-- So it is of each flow with a minimum rate, from the opening on.
abbrev pub MinimumRatesAreKept : Type 0
MinimumRatesAreKept = (t : Tables) (cuts : List (List ℕ)) → AreTables t → AreCuts t cuts → (place : ℕ) (flow : FlowTable) →
    slice_get t.flows place ≡ Some flow → 0 < flow.min_rate → KeepsMinimum t cuts place flow
