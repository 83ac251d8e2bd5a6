-- Inside the crate, and of no use to a reader of the promise: a state in its parts, and what each stage of a round makes of
-- them.
use Rattle.std.specs.Prelude.{◌≡◌, ℕ, ◌+◌, ◌-◌, ◌*◌, ◌≤◌, ◌==◌, Bool, if◌then◌else◌, List, [], Option, Some, None, map, option_and_then, slice_get, slice_index, slice_index_or}
use Rattle.std.specs.List.{AllByRecursion, find}
use Rattle.us_flows.specs.Tables.{FlowTable, max_run_ticks}
use Rattle.us_flows.specs.Clusters.{tells_activity}
use Rattle.us_calendar.specs.Calendars.{activity_in}
use Rattle.us_flows.specs.Lawful.{AreTables}
use Rattle.us_crew.specs.Values.{values_of}
use Rattle.us_split.specs.Claims.{Claim, IsClaimOn}
use Rattle.us_channel.specs.Channels.{Built, fill, build_on, ungranted, filled_part}
use Rattle.us_output.specs.Outputs.{Scheduled}
use Rattle.us_output.specs.Leftovers.{IsBuiltFor, AreInside, scheduled_by, told}
use Rattle.us_round.specs.Rounds.{State, RoundResult, all_grants}
use Rattle.us_round.specs.States.{IsState, Covers, settled_by, max_settled_by}
use Rattle.us_round.specs.Cores.{Core, credited_core, with_calendars}

-- the state of these parts
abbrev pub state_of : Core → List Built → State
state_of core bs = with_calendars core (map (λ b. b.calendar) bs)

-- what the calendar of the channel with this id heard last of the flow with that id,
abbrev pub activity_heard : List Built → ℕ → ℕ → Option Bool
activity_heard bs id flow = option_and_then (λ b. activity_in flow b.calendar) (find (λ b. b.channel.id == id) bs)

-- and whether a flow is active, if it tells that
abbrev pub activity_by : List Built → FlowTable → Option Bool
activity_by bs flow = if tells_activity flow.kind then activity_heard bs (slice_index flow.channels 0) flow.id else None

-- the channels are those of the tables
pub record ArePartsOfState (core : Core) (bs : List Built) : Type 0 where
  pub state : IsState (state_of core bs)
  pub few : settled_by (state_of core bs) ≤ max_settled_by
  pub told : core.told ≡ core.round - 1
  pub channels : map (λ b. b.channel) bs ≡ core.tables.channels

-- parts of which a round may be made
pub record ArePartsOfRound (core : Core) (bs : List Built) : Type 0 where
  pub state : IsState (state_of core bs)
  pub channels : map (λ b. b.channel) bs ≡ core.tables.channels
  pub told : core.told ≡ core.round
  pub lawful : AreTables core.tables

-- the channels once reserves and calendars have their minislots,
abbrev pub filled_by : Core → List Built → List Built
filled_by core bs = map (λ b. ungranted (fill core.tables core.round b.channel b.calendar)) bs

-- and planned, which gives each channel claims that can be placed there,
abbrev pub AreClaimsOn : List (List Claim) → List Built → Type 0
AreClaimsOn plan bs = (place : ℕ) (b : Built) → slice_get bs place ≡ Some b →
    AllByRecursion (IsClaimOn b.channel) (slice_index_or plan place [])

-- each places its own,
abbrev pub built_by : List (List Claim) → List Built → List Built
built_by plan bs = values_of (λ place b. build_on (slice_index_or plan place []) (filled_part b)) bs

-- and their grants are covered, and leave a state
pub record AreBuilt (core : Core) (bs : List Built) : Type 0 where
  pub lawful : AreTables core.tables
  pub told : core.told ≡ core.round
  pub time : (core.round + 1) * core.tables.round_ticks ≤ max_run_ticks
  pub covers : Covers core.outstanding core.buckets (all_grants bs)
  pub boards : AllByRecursion (IsBuiltFor core.tables) bs
  pub inside : AllByRecursion AreInside bs
  pub next : IsState (state_of (credited_core core bs) bs)
  pub channels : map (λ b. b.channel) bs ≡ core.tables.channels

-- what they were scheduled
abbrev pub scheduled_of : Core → List Built → Scheduled
scheduled_of core bs =
    scheduled_by core.tables core.round core.outstanding (credited_core core bs).outstanding bs

-- and what they leave
abbrev pub done_of : Core → List Built → RoundResult
done_of core bs = record { state = state_of (credited_core core bs) bs; scheduled = scheduled_of core bs }

-- parts of a state after a round, whose channels tell that round
pub record ArePartsDone (core : Core) (bs : List Built) : Type 0 where
  pub parts : ArePartsOfState core bs
  pub later : 1 ≤ core.round
  pub time : core.round * core.tables.round_ticks ≤ max_run_ticks
  pub boards : AllByRecursion (IsBuiltFor core.tables) bs
  pub inside : AllByRecursion AreInside bs

-- the round that they tell, where this is pending
abbrev pub done_by : Core → List Built → List (ℕ × ℕ) → RoundResult
done_by core bs pending = record { state = state_of core bs; scheduled = told (core.round - 1) bs pending }
