-- What holds of every plan: no channel, cluster or flow gives more than it has.
use Rattle.std.specs.Prelude.{◌≡◌, ◌⊎◌, ℕ, ◌+◌, ◌<◌, ◌≤◌, ◌==◌, List, length, filter, sum, sum_by, slice_get, slice_index, Option, Some, None}
use Rattle.std.specs.List.{AllByRecursion}
use Rattle.us_flows.specs.declared.channels.Channel.{Channel}
use Rattle.us_flows.specs.Tables.{Tables, header_bytes}
use Rattle.us_split.specs.Plans.{Planned, cost_on, max_burst_bytes, min_rate_reserves, reserved_for}

-- at most so many bytes, where there is a limit
abbrev pub Within : Option ℕ → ℕ → Type 0
Within None bytes = Unit {0}
Within (Some most) bytes = bytes ≤ most

-- the bytes of all shares of the turns that pass
abbrev pub planned_bytes : List Planned → ℕ
planned_bytes plan = sum_by (λ planned. sum planned.shares) plan

-- the shares of a turn and the header are at most the bytes of a burst
abbrev pub AreBursts : Planned → Type 0
AreBursts planned =
    AllByRecursion (λ share. (share ≡ 0) ⊎ (share + header_bytes planned.turn.cluster.flow ≤ max_burst_bytes)) planned.shares

pub record IsLawfulPlan (t : Tables) (outstanding : List ℕ) (allowances : List (Option ℕ)) (idle : List ℕ)
    (plan : List Planned) : Type 0 where
  -- on each channel the grants that are planned cost at most its idle minislots,
  pub room : (place : ℕ) (c : Channel) → slice_get t.channels place ≡ Some c →
      sum_by (λ planned. cost_on c planned) plan ≤ slice_index idle place
  -- the shares of a cluster are at most its outstanding bytes,
  pub asked : (number : ℕ) →
      planned_bytes (filter (λ planned. planned.turn.number == number) plan) ≤ slice_index outstanding number
  -- those of a flow at most its allowance,
  pub allowed : (place : ℕ) (allowance : Option ℕ) → slice_get allowances place ≡ Some allowance →
      Within allowance (planned_bytes (filter (λ planned. planned.turn.place == place) plan))
  -- and each with its header is a burst
  pub bursts : AllByRecursion AreBursts plan

-- and of no flow more is taken in the first pass than is reserved; of one without a minimum rate nothing is
abbrev pub AreWithinReserves : Tables → List ℕ → List (Option ℕ) → List ℕ → List ℕ → Type 0
AreWithinReserves t outstanding allowances reserves idle = (place : ℕ) → place < length allowances →
    reserved_for t outstanding allowances reserves idle place ≤ slice_index (min_rate_reserves t.flows reserves) place
