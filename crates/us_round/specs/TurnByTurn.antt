-- Placing, told turn by turn (ours): turn after turn, and within a turn channel after channel in the flow's order, each share
-- above 0 is placed on its channel's board. It comes to the same as channel by channel.
use Rattle.std.specs.Prelude.{◌≡◌, ℕ, ◌+◌, ◌==◌, if◌then◌else◌, List, [], ◌∷◌, ◌++◌, map, Option, Some, None}
use Rattle.std.specs.List.{AllByRecursion}
use Rattle.us_flows.specs.Lawful.{AreApart, AreTables}
use Rattle.us_split.specs.Plans.{Planned}
use Rattle.us_split.specs.Claims.{Claim, claim_at}
use Rattle.us_channel.specs.Placements.{PlacedClaim, grant_of, with_grant}
use Rattle.us_channel.specs.Channels.{Filled, Built, ungranted}
use Rattle.us_round.specs.Rounds.{State, fills_of, round_plan, build_planned, builds_of}

-- a channel with a grant, if there is one
abbrev pub with_grant_on : Built → Option PlacedClaim → Built
with_grant_on b None = b
with_grant_on b (Some g) = record b { board = with_grant b.board (Some g); grants = b.grants ++ g ∷ [] }

-- a channel with a claim placed, if there is one and it has a place
abbrev pub with_claim_on : Built → Option Claim → Built
with_claim_on b None = b
with_claim_on b (Some claim) = with_grant_on b (grant_of b.channel.bursts b.board claim)

-- the share of a turn on its flow's channel at a position is placed on the board of the channel with this id; no other
-- channel changes
abbrev pub place_share : ℕ → Planned → ℕ → ℕ → List Built → List Built
place_share turn planned position id builds =
    map (λ b. if b.channel.id == id then with_claim_on b (claim_at b.channel turn planned position) else b) builds

-- the shares of a turn, channel after channel in the flow's order, from a position on
unfoldable pub place_channels : ℕ → Planned → ℕ → List ℕ → List Built → List Built
place_channels turn planned position [] builds = builds
place_channels turn planned position (id ∷ ids) builds =
    place_channels turn planned (position + 1) ids (place_share turn planned position id builds)

-- the shares of all turns, turn after turn, of which the first has this place
unfoldable pub place_turns : ℕ → List Planned → List Built → List Built
place_turns turn [] builds = builds
place_turns turn (planned ∷ plan) builds =
    place_turns (turn + 1) plan (place_channels turn planned 0 planned.turn.cluster.flow.channels builds)

-- it comes to the same, where no flow has a channel twice,
abbrev pub ByTurnsIsByChannels : Type 0
ByTurnsIsByChannels = (plan : List Planned) (fs : List Filled) →
    AllByRecursion (λ planned. AreApart planned.turn.cluster.flow.channels) plan →
    place_turns 0 plan (map ungranted fs) ≡ map (build_planned plan) fs

-- and so in each round of a configuration
abbrev pub RoundsAreByTurns : Type 0
RoundsAreByTurns = (state : State) → AreTables state.tables →
    place_turns 0 (round_plan state) (map ungranted (fills_of state)) ≡ builds_of state
