-- What a state keeps, what of it the grants of a round may take, and what a round of it needs and leaves.
use Rattle.std.specs.Prelude.{◌≡◌, ℕ, ◌+◌, ◌*◌, ◌^◌, ◌<◌, ◌≤◌, List, length, map, sum_by, zip, slice_index, slice_get, Some}
use Rattle.std.specs.List.{AllByRecursion}
use Rattle.us_flows.specs.Tables.{max_run_ticks}
use Rattle.us_flows.specs.Clusters.{words_of}
use Rattle.us_bucket.specs.Levels.{Level, bytes_in, reserve_in}
use Rattle.us_split.specs.PlanLaws.{Within}
use Rattle.us_calendar.specs.Calendars.{pace_of, settled_in, max_settled, granted_in}
use Rattle.us_channel.specs.Placements.{PlacedClaim, credits}
use Rattle.us_channel.specs.Channels.{Built}
use Rattle.us_holes.specs.Boards.{max_assignments}
use Rattle.us_output.specs.Outputs.{AreWithinLimits, out_of}
use Rattle.us_output.specs.Leftovers.{IsBuiltFor, AreInside}
use Rattle.us_round.specs.Rounds.{State, RoundResult, all_grants, begun, builds_of, is_of_cluster, is_of_flow, reserved_in, round_of}

-- there is a number for each word, a bucket and a reserve for each flow, and a calendar for each channel, at this round
pub record IsState (s : State) : Type 0 where
  pub words : length s.outstanding ≡ length (words_of s.tables)
  pub flows : length s.buckets ≡ length s.tables.flows
  pub reserves : length s.reserves ≡ length s.tables.flows
  pub paces : map (λ calendar. calendar.pace) s.calendars ≡ map (pace_of s.tables) s.tables.channels
  pub rounds : AllByRecursion (λ calendar. calendar.next_round ≡ s.round) s.calendars

-- how many occurrences the calendars have settled so far
abbrev pub settled_by : State → ℕ
settled_by s = sum_by settled_in s.calendars

-- the most of them: there are at most 16 channels
abbrev pub max_settled_by : ℕ
max_settled_by = 16 * max_settled

-- a grant is of a cluster and a flow that are there
pub record IsKnown (clusters flows : ℕ) (g : PlacedClaim) : Type 0 where
  pub cluster : g.claimant.cluster < clusters
  pub place : g.claimant.place < flows

-- the credits of these grants are at most what is outstanding, and at most what the buckets allow
pub record Covers (outstanding : List ℕ) (buckets : List Level) (grants : List PlacedClaim) : Type 0 where
  pub known : AllByRecursion (IsKnown (length outstanding) (length buckets)) grants
  pub asked : (number : ℕ) → credits (is_of_cluster number) grants ≤ slice_index outstanding number
  pub allowed : (place : ℕ) (bucket : Level) → slice_get buckets place ≡ Some bucket →
      Within (bytes_in bucket) (credits (is_of_flow place) grants)

-- the channels of a state's round: grants take what is there, and first shares what is reserved; grants start inside the MAPs,
-- and stand on the boards
pub record AreSound (s : State) (builds : List Built) : Type 0 where
  pub covers : Covers s.outstanding s.buckets (all_grants builds)
  pub reserved : (place : ℕ) (bucket : Level) → slice_get s.reserves place ≡ Some bucket →
      reserved_in s place ≤ reserve_in bucket
  pub boards : AllByRecursion (IsBuiltFor s.tables) builds
  pub inside : AllByRecursion AreInside builds
  pub few : AllByRecursion (λ b. granted_in b.settled + length b.grants ≤ b.board.standing) builds

-- the cut has a number for each word, which has room for it, and the round ends in time
pub record CanMake (state : State) (cut : List ℕ) : Type 0 where
  pub words : length cut ≡ length (words_of state.tables)
  pub room : AllByRecursion (λ pair. pair.0 + pair.1 < 2 ^ 62) (zip state.outstanding cut)
  pub time : (state.round + 1) * state.tables.round_ticks ≤ max_run_ticks

-- the round of this state and this cut: its grants take no more than there is, and where no MAP passes its limits, it
-- has a line at most for each assignment of a MAP, and those that the calendars settled
pub record IsMade (state : State) (cut : List ℕ) (done : RoundResult) : Type 0 where
  pub value : done ≡ round_of state cut
  pub sound : AreSound (begun state cut) (builds_of (begun state cut))
  pub few : AreWithinLimits state.tables done.scheduled →
      length (out_of state.tables done.scheduled).rows + settled_by state ≤
      max_assignments * length state.tables.channels + settled_by done.state
