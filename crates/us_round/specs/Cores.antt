-- Inside the crate, and of no use to a reader of the promise: a state without its calendars, which go from round to round
-- with their channels; and what is known of the channels of a round on the way.
use Rattle.std.specs.Prelude.{◌≡◌, ℕ, ◌+◌, ◌-◌, ◌*◌, ◌<◌, ◌≤◌, List, [], ◌∷◌, length, map, replicate, slice_get, slice_index, slice_index_or, slice_set, sum_by, Option, Some, None, option_and_then}
use Rattle.std.specs.List.{AllByRecursion}
use Rattle.us_flows.specs.Tables.{Tables, map_len, max_run_ticks}
use Rattle.us_flows.specs.Lawful.{AreTables, IsChannel}
use Rattle.us_flows.specs.Clusters.{turns_of, words_of}
use Rattle.us_flows.specs.declared.turns.Turn as places
use Rattle.us_bucket.specs.Levels.{Level, full, spent, bytes_in, reserve_in}
use Rattle.us_holes.specs.Boards.{free_count}
use Rattle.us_split.specs.Plans.{Planned, plan_for, reserved_for}
use Rattle.us_split.specs.Claims.{Claim, all_claims}
use Rattle.us_split.specs.Asking.{Asking, numbers_of, pending_places}
use Rattle.us_split.specs.Requested.{with_cut}
use Rattle.us_split.specs.Planners.{Planner}
use Rattle.us_channel.specs.Placements.{PlacedClaim}
use Rattle.us_output.specs.Outputs.{first_sid}
use Rattle.us_round.specs.Buckets.{Buckets}
use Rattle.us_calendar.specs.Calendars as calendars
use Rattle.us_calendar.specs.Calendars.{Calendar, pace_of, settled_in, granted_in}
use Rattle.us_channel.specs.Channels.{Filled, Built}
use Rattle.us_round.specs.States.{Covers}
use Rattle.us_round.specs.Rounds.{State, brought, all_grants, uncredited, spent_of, unreserved}

-- all of a state but its calendars
pub record Core : Type 0 where
  pub tables : Tables
  pub round : ℕ
  -- the round as of which the buckets are told
  pub told : ℕ
  pub outstanding : List ℕ
  pub buckets : List Level
  -- the buckets of minimum rates; once a round is planned, what its plan leaves of them
  pub reserves : List Level
  -- the places of the turns that were pending in the round before, and the claims on each channel
  pub pending : List ℕ
  pub claims : List (List Claim)

-- the state that it is with these calendars
abbrev pub with_calendars : Core → List Calendar → State
with_calendars core cs = record {
  tables = core.tables;
  round = core.round;
  outstanding = core.outstanding;
  buckets = core.buckets;
  reserves = core.reserves;
  calendars = cs;
}

-- there is a number for each word, and a bucket and a reserve for each flow
pub record IsCore (core : Core) : Type 0 where
  pub words : length core.outstanding ≡ length (words_of core.tables)
  pub flows : length core.buckets ≡ length core.tables.flows
  pub reserves : length core.reserves ≡ length core.tables.flows

-- before round 0
abbrev pub opening_core : Tables → Core
opening_core t = record {
  tables = t;
  round = 0;
  told = 0;
  outstanding = replicate (length (words_of t)) 0;
  buckets = map (λ flow. full flow.rate flow.burst) t.flows;
  reserves = map (λ flow. full flow.min_rate flow.burst) t.flows;
  pending = [];
  claims = map (λ c. []) t.channels;
}

-- what a round begins with
abbrev pub begun_core : Core → List ℕ → Core
begun_core core cut = record core {
  told = core.round;
  outstanding = with_cut core.tables core.outstanding cut;
  buckets = brought (with_calendars core []) core.buckets;
  reserves = brought (with_calendars core []) core.reserves;
}

-- what is idle on channels with reserves and calendars, and the plan of that
abbrev pub idle_of : List Built → List ℕ
idle_of bs = map (λ b. free_count b.board.cells) bs

abbrev pub plan_over : Core → List Built → List Planned
plan_over core bs =
    plan_for core.tables core.outstanding (map bytes_in core.buckets) (map reserve_in core.reserves) (idle_of bs)

-- and what it takes of the reserve of the flow at a place
abbrev pub reserved_over : Core → List Built → ℕ → ℕ
reserved_over core bs =
    reserved_for core.tables core.outstanding (map bytes_in core.buckets) (map reserve_in core.reserves) (idle_of bs)

abbrev pub planned_core : Core → List Built → Core
planned_core core bs = record core {
  reserves = unreserved (reserved_over core bs) 0 core.reserves;
  claims = all_claims core.tables (plan_over core bs);
}

-- and what its channels leave
abbrev pub credited_core : Core → List Built → Core
credited_core core builds = record core {
  round = core.round + 1;
  outstanding = uncredited (all_grants builds) 0 core.outstanding;
  buckets = spent_of (all_grants builds) 0 core.buckets;
  pending = pending_places core.outstanding (uncredited (all_grants builds) 0 core.outstanding) (numbers_of (turns_of core.tables));
}

-- What it is made of.

-- what a core is made of
abbrev pub core_of : Tables → ℕ → Asking → Buckets → Buckets → Planner → Core
core_of t round asking buckets reserves planner = record {
  tables = t;
  round = round;
  told = buckets.round;
  outstanding = asking.outstanding;
  buckets = buckets.levels;
  reserves = reserves.levels;
  pending = asking.pending;
  claims = planner.claims;
}

-- buckets of these tables' flows
pub record AreBuckets (t : Tables) (kept : Buckets) : Type 0 where
  pub flows : length kept.levels ≡ length t.flows
  pub ticks : kept.ticks ≡ t.round_ticks

-- no bucket of a minimum rate has one
abbrev pub NoRates : List Level → Type 0
NoRates levels = AllByRecursion (λ (l : Level). l.rate ≡ 0) levels

-- room for what such buckets reserve, flow by flow; there is none where no flow has a minimum rate
pub record IsRoom (levels : List Level) (noted : List ℕ) : Type 0 where
  pub none : length noted ≡ 0 → NoRates levels
  pub long : 0 < length noted → length noted ≡ length levels

-- its parts are of the same tables and the same round; and nothing is credited that isn't settled
pub record AreKept (t : Tables) (asks : Asking) (kept least : Buckets) (plans : Planner) (most : List (Option ℕ))
    (noted : List ℕ) : Type 0 where
  pub lawful : AreTables t
  pub words : length asks.outstanding ≡ length (words_of t)
  pub buckets : AreBuckets t kept
  pub reserves : AreBuckets t least
  pub round : least.round ≡ kept.round
  pub tables : asks.tables ≡ t
  pub settled : asks.left ≡ asks.outstanding
  pub planner : plans.tables ≡ t
  pub allowances : length most ≡ length t.flows
  pub left : IsRoom least.levels noted

-- the allowance of the flow of the turn at this place is what the bucket allows
abbrev pub IsAllowed : List places.Turn → List Level → List (Option ℕ) → ℕ → Type 0
IsAllowed turns levels allowances place = (turn : places.Turn) → slice_get turns place ≡ Some turn →
    slice_index_or allowances turn.flow None ≡ slice_index_or (map bytes_in levels) turn.flow None

abbrev pub AreAllowed : List places.Turn → List Level → List (Option ℕ) → List ℕ → Type 0
AreAllowed turns levels allowances these = AllByRecursion (IsAllowed turns levels allowances) these

-- the flow of the turn at a place
abbrev pub flow_at : List places.Turn → ℕ → ℕ
flow_at turns place = (slice_index_or turns place (record { flow = 0; list = 0; cluster = 0 })).flow

-- what is noted for the flows of the turns at these places is what the buckets of their minimum rates reserve
abbrev pub AreReserved : List places.Turn → List Level → List ℕ → List ℕ → Type 0
AreReserved turns levels reserves these =
    AllByRecursion (λ place. slice_index reserves (flow_at turns place) ≡ slice_index (map reserve_in levels) (flow_at turns place)) these

-- a bucket once it reserves no more than so many bytes
abbrev pub left_in : ℕ → Level → Level
left_in left level = spent (reserve_in level - left) level

-- the buckets once that of the flow of each turn at these places reserves no more than is left there
abbrev pub left_at : List places.Turn → List ℕ → List ℕ → List Level → List Level
left_at turns left [] levels = levels
left_at turns left (place ∷ these) levels =
    let flow : ℕ = flow_at turns place in
    left_at turns left these
    (slice_set levels flow (left_in (slice_index left flow) (slice_index_or levels flow (full 0 0))))

-- what grants leave of those who ask and of the buckets
pub record AreCredited (grants : List PlacedClaim) (asking next : Asking) (buckets after : Buckets) : Type 0 where
  pub left : next.left ≡ uncredited grants 0 asking.left
  pub outstanding : next.outstanding ≡ asking.outstanding
  pub tables : next.tables ≡ asking.tables
  pub levels : after.levels ≡ spent_of grants 0 buckets.levels
  pub ticks : after.ticks ≡ buckets.ticks
  pub round : after.round ≡ buckets.round

-- while the grants of all are credited, these are the rest
pub record IsCrediting (rest all : List PlacedClaim) (first now : Asking) (before after : Buckets) : Type 0 where
  pub covers : Covers now.left after.levels rest
  pub left : uncredited rest 0 now.left ≡ uncredited all 0 first.left
  pub levels : spent_of rest 0 after.levels ≡ spent_of all 0 before.levels
  pub outstanding : now.outstanding ≡ first.outstanding
  pub tables : now.tables ≡ first.tables
  pub ticks : after.ticks ≡ before.ticks
  pub round : after.round ≡ before.round

-- where the turn at a place is pending, if there is one
abbrev pub first_sid_at : Tables → ℕ → Option (ℕ × ℕ)
first_sid_at t place = option_and_then first_sid (slice_get (turns_of t) place)

-- Channels.

-- a calendar for each channel, at this round
pub record AreCalendars (t : Tables) (round : ℕ) (cs : List Calendar) : Type 0 where
  pub paces : map (λ calendar. calendar.pace) cs ≡ map (pace_of t) t.channels
  pub rounds : AllByRecursion (λ calendar. calendar.next_round ≡ round) cs

-- a channel of these tables, with its calendar, in a round that may be made
pub record IsReady (t : Tables) (round : ℕ) (b : Built) : Type 0 where
  pub channel : IsChannel t b.channel
  pub pace : b.calendar.pace ≡ pace_of t b.channel
  pub next : b.calendar.next_round ≡ round
  pub time : (round + 1) * t.round_ticks ≤ max_run_ticks

-- a channel of these tables after its calendar: its board has the length of its MAPs, and what was granted starts inside
-- and stands there
pub record IsFilledFor (t : Tables) (f : Filled) : Type 0 where
  pub len : length f.board.cells ≡ map_len t f.channel
  pub inside : AllByRecursion (calendars.StartsInside (length f.board.cells)) f.settled
  pub few : granted_in f.settled ≤ f.board.standing

-- how many occurrences the calendars of channels settled in a round, and so far
abbrev pub settled_now : List Filled → ℕ
settled_now fs = sum_by (λ f. length f.settled) fs

abbrev pub settled_then : List Filled → ℕ
settled_then fs = sum_by (λ f. settled_in f.calendar) fs

-- the calendars of built channels settled what the channels tell, and what silent intervals leave out
abbrev pub AreCounted : List Calendar → List Built → Type 0
AreCounted before builds =
    sum_by (λ b. length b.settled) builds + sum_by settled_in before ≤ sum_by (λ b. settled_in b.calendar) builds
