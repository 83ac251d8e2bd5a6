-- A round of a bonding group (ours), and the schedule, round after round.
use Rattle.std.specs.Prelude.{ℕ, ◌+◌, ◌-◌, ◌==◌, nat_lt, Bool, ◌&&◌, if◌then◌else◌, List, [], ◌∷◌, length, replicate, map, flat_map, filter_map, zip, slice_index, Option, None}
use Rattle.us_flows.specs.Tables.{Tables}
use Rattle.us_flows.specs.Clusters.{Turn, turns_of, words_of}
use Rattle.us_bucket.specs.Levels.{Level, full, refilled, spent, bytes_in, reserve_in}
use Rattle.us_holes.specs.Boards.{free_count}
use Rattle.us_calendar.specs.Calendars as calendars
use Rattle.us_calendar.specs.Calendars.{Calendar, heard_by}
use Rattle.us_split.specs.Requested.{with_cut}
use Rattle.us_split.specs.Plans.{Planned, plan_for, reserved_for}
use Rattle.us_split.specs.Claims.{claims_on}
use Rattle.us_channel.specs.Placements.{PlacedClaim, credits}
use Rattle.us_channel.specs.Channels.{Filled, fill, Built, build_on}
use Rattle.us_output.specs.Outputs.{Scheduled, first_sid}

-- what a round starts from: the tables, its number, the outstanding bytes by word, the bucket of each flow and that of its
-- minimum rate, and the calendar of each channel, which knows which of its flows are active
pub record State : Type 0 where
  pub tables : Tables
  pub round : ℕ
  pub outstanding : List ℕ
  pub buckets : List Level
  pub reserves : List Level
  pub calendars : List Calendar

-- before round 0 nothing is outstanding, every bucket is full, nothing of the calendars is settled, and every flow is active
abbrev pub opening : Tables → State
opening t = record {
  tables = t;
  round = 0;
  outstanding = replicate (length (words_of t)) 0;
  buckets = map (λ flow. full flow.rate flow.burst) t.flows;
  reserves = map (λ flow. full flow.min_rate flow.burst) t.flows;
  calendars = map (calendars.opening t) t.channels;
}

-- The start of a round.

-- in every round but the first buckets grow by what a round's time brings, those that limit flows and those of minimum
-- rates
abbrev pub brought : State → List Level → List Level
brought state levels = if state.round == 0 then levels else map (refilled state.tables.round_ticks) levels

-- Channels.

-- the channels of a round, each with its reserves and its calendar
abbrev pub filled : Tables → ℕ → List Calendar → List Filled
filled t round cs = map (λ pair. fill t round pair.0 pair.1) (zip t.channels cs)

-- the minislots that are idle then are what the plan has to give
abbrev pub idle : List Filled → List ℕ
idle fs = map (λ f. free_count f.board.cells) fs

-- each channel places its claims of the plan, and reads no other channel's board
unfoldable pub build_planned : List Planned → Filled → Built
build_planned plan f = build_on (claims_on f.channel plan) f

-- The end of a round.

-- the grants of all channels
abbrev pub all_grants : List Built → List PlacedClaim
all_grants builds = flat_map (λ b. b.grants) builds

-- whether a grant is of the cluster whose word has this number, and whether it is of the flow at this place
abbrev pub is_of_cluster : ℕ → PlacedClaim → Bool
is_of_cluster number g = g.claimant.cluster == number

abbrev pub is_of_flow : ℕ → PlacedClaim → Bool
is_of_flow place g = g.claimant.place == place

-- credits leave the outstanding bytes of the words from `number` on,
abbrev pub uncredited : List PlacedClaim → ℕ → List ℕ → List ℕ
uncredited grants number [] = []
uncredited grants number (bytes ∷ more) =
    (bytes - credits (is_of_cluster number) grants) ∷ uncredited grants (number + 1) more

-- the buckets of the flows from `place` on,
abbrev pub spent_of : List PlacedClaim → ℕ → List Level → List Level
spent_of grants place [] = []
spent_of grants place (bucket ∷ more) =
    spent (credits (is_of_flow place) grants) bucket ∷ spent_of grants (place + 1) more

-- and what the plan reserves of each flow leaves the bucket of its minimum rate, whether it is placed or not
abbrev pub unreserved : (ℕ → ℕ) → ℕ → List Level → List Level
unreserved reserved place [] = []
unreserved reserved place (bucket ∷ more) = spent (reserved place) bucket ∷ unreserved reserved (place + 1) more

-- Pendings.

-- a turn that still has outstanding bytes and was credited nothing is pending there
abbrev pub pending_sid : List PlacedClaim → List ℕ → Turn → Option (ℕ × ℕ)
pending_sid grants left turn =
    if nat_lt 0 (slice_index left turn.number) && (credits (is_of_cluster turn.number) grants == 0)
    then first_sid turn else None

-- all of them in the order of turns
unfoldable pub pending_sids : List PlacedClaim → List ℕ → List Turn → List (ℕ × ℕ)
pending_sids grants left turns = filter_map (pending_sid grants left) turns

-- Rounds.

-- a round, and what the next one starts from
pub record RoundResult : Type 0 where
  pub state : State
  pub scheduled : Scheduled

-- a state whose round has begun: what the cut has of clusters is outstanding too, all buckets have grown, and all calendars
-- have heard what it has of the activity of flows
abbrev pub begun : State → List ℕ → State
begun state cut = record state {
  outstanding = with_cut state.tables state.outstanding cut;
  buckets = brought state state.buckets;
  reserves = brought state state.reserves;
  calendars = map (heard_by cut) state.calendars;
}

-- its channels, once reserves and calendars have their minislots
abbrev pub fills_of : State → List Filled
fills_of state = filled state.tables state.round state.calendars

-- its plan, on what is idle then
abbrev pub round_plan : State → List Planned
round_plan state =
    plan_for state.tables state.outstanding (map bytes_in state.buckets) (map reserve_in state.reserves) (idle (fills_of state))

-- and what that takes of the reserve of the flow at a place
abbrev pub reserved_in : State → ℕ → ℕ
reserved_in state =
    reserved_for state.tables state.outstanding (map bytes_in state.buckets) (map reserve_in state.reserves)
    (idle (fills_of state))

-- and its channels, once all claims are placed
unfoldable pub builds_of : State → List Built
builds_of state = map (build_planned (round_plan state)) (fills_of state)

-- what the channels of a round leave of a state to the next one
abbrev pub credited : State → List Built → State
credited state builds =
    let grants : List PlacedClaim = all_grants builds in
    record state {
      round = state.round + 1;
      outstanding = uncredited grants 0 state.outstanding;
      buckets = spent_of grants 0 state.buckets;
      reserves = unreserved (reserved_in state) 0 state.reserves;
      calendars = map (λ b. b.calendar) builds;
    }

-- a round that has begun, once its channels are these
abbrev pub ended : State → List Built → RoundResult
ended state builds =
    let grants : List PlacedClaim = all_grants builds in
    record {
      state = credited state builds;
      scheduled = record {
        round = state.round;
        channels = builds;
        pending = pending_sids grants (uncredited grants 0 state.outstanding) (turns_of state.tables);
      };
    }

-- and with those that it comes to
unfoldable pub round_from : State → RoundResult
round_from state = ended state (builds_of state)

-- the round of a state, with a cut: bytes by word, those that clusters newly ask for, and marks of activity
unfoldable pub round_of : State → List ℕ → RoundResult
round_of state cut = round_from (begun state cut)

-- the rounds of these cuts, one after another
unfoldable pub schedule : State → List (List ℕ) → List Scheduled
schedule state [] = []
schedule state (cut ∷ cuts) = (round_of state cut).scheduled ∷ schedule (round_of state cut).state cuts

-- and the state that they leave
unfoldable pub final : State → List (List ℕ) → State
final state [] = state
final state (cut ∷ cuts) = final (round_of state cut).state cuts
