-- Inside the crate: a turn by its places, and a plan in the making.
use Rattle.std.specs.Prelude.{◌≡◌, ℕ, ◌+◌, ◌-◌, ◌/◌, ◌^◌, ◌<◌, ◌≤◌, ◌==◌, min, if◌then◌else◌, List, [], ◌∷◌, ◌++◌, length, map, find, position, slice_index, slice_get, slice_index_or, zip, Option, Some, option_to_list}
use Rattle.us_slots.specs.Bursts.{grant_cost}
use Rattle.us_slots.specs.Times.{minislot_ticks}
use Rattle.us_flows.specs.declared.channels.Channel.{Channel}
use Rattle.us_flows.specs.Ranges.{max_round_ticks}
use Rattle.us_flows.specs.Tables.{Tables, FlowTable, header_bytes}
use Rattle.us_flows.specs.Clusters.{Turn}
use Rattle.us_flows.specs.declared.turns.Turn as places
use Rattle.us_split.specs.Plans.{Budget, Ledger, Planned, weight, shares_of, share_cost, cost_on, allowed_less}
use Rattle.us_split.specs.Claims.{Claimant, Claim, claimant_of, claim_on}

-- a turn of a flow, by its places, none of which is past 16 bits
pub record IsTurnOf (u : places.Turn) (flow : FlowTable) (turn : Turn) : Type 0 where
  pub number : turn.number ≡ u.cluster
  pub place : turn.place ≡ u.flow
  pub list : turn.cluster.list ≡ u.list
  pub own : turn.cluster.flow ≡ flow
  pub sids : slice_get flow.clusters u.list ≡ Some turn.cluster.sids

-- its places, and the flow's id, are small
pub record IsSmall (u : places.Turn) : Type 0 where
  pub cluster : u.cluster < 2 ^ 16
  pub flow : u.flow < 2 ^ 16
  pub list : u.list < 2 ^ 8

-- a channel, the minislots that are still to be planned on it, and the claims so far
pub record ChannelPlan : Type 0 where
  pub channel : Channel
  pub slots : ℕ
  pub claims : List Claim

-- the same without its claims
abbrev pub budget_in : ChannelPlan → Budget
budget_in c = record { channel = c.channel; slots = c.slots }

-- what is planned with this id
abbrev pub channel_of : List ChannelPlan → ℕ → Option ChannelPlan
channel_of channels id = find (λ c. c.channel.id == id) channels

-- what stands at a place is the channel with this id
pub record IsPlaceOf (channels : List ChannelPlan) (id place : ℕ) : Type 0 where
  pub within : place < length channels
  pub own : (c : ChannelPlan) → (slice_index_or channels place c).channel.id ≡ id

-- who claims: a cluster, the place of its turn, and the bytes of its segment header
pub record Asker : Type 0 where
  pub claimant : Claimant
  pub turn : ℕ
  pub header : ℕ

abbrev pub asker_of : ℕ → Turn → Asker
asker_of place turn = record { claimant = claimant_of turn; turn = place; header = header_bytes turn.cluster.flow }

-- its claim of a share on a channel
abbrev pub claim_of : Asker → ℕ → ℕ → ℕ → ChannelPlan → Claim
claim_of asker position sid share c = record {
  claimant = asker.claimant;
  turn = asker.turn;
  position = position;
  sid = sid;
  header = asker.header;
  share = share;
  slots = (grant_cost c.channel.bursts (share + asker.header)).0;
  iuc = (grant_cost c.channel.bursts (share + asker.header)).1;
}

-- with such a claim a channel has fewer minislots left
abbrev pub with_claim : Asker → ℕ → ℕ → ℕ → ChannelPlan → ChannelPlan
with_claim asker position sid share c = record c {
  slots = c.slots - (grant_cost c.channel.bursts (share + asker.header)).0;
  claims = c.claims ++ claim_of asker position sid share c ∷ [];
}

-- no share is no claim
abbrev pub with_share : Asker → ℕ → ℕ → ℕ → ChannelPlan → ChannelPlan
with_share asker position sid share c = if share == 0 then c else with_claim asker position sid share c

-- a share on the channel with this id
abbrev pub claimed_at : Asker → ℕ → ℕ → ℕ → ℕ → ChannelPlan → ChannelPlan
claimed_at asker position id sid share c =
    if c.channel.id == id then with_share asker position sid share c else c

-- shares on the channels with these ids, from a position on
unfoldable pub claimed_from : Asker → ℕ → List ℕ → List ℕ → List ℕ → ChannelPlan → ChannelPlan
claimed_from asker position [] sids shares c = c
claimed_from asker position (id ∷ ids) sids shares c =
    claimed_from asker (position + 1) ids sids shares
    (claimed_at asker position id (slice_index sids position) (slice_index shares position) c)

-- a planned turn, by its place: what its share on the channel costs is taken, and claimed
abbrev pub with_turn : ℕ → Planned → ChannelPlan → ChannelPlan
with_turn place planned c = record c {
  slots = c.slots - cost_on c.channel planned;
  claims = c.claims ++ option_to_list (claim_on c.channel place planned);
}

-- a plan in the making: its channels, and what turns still are allowed
pub record PartialPlan : Type 0 where
  pub channels : List ChannelPlan
  pub allowances : List (Option ℕ)

-- before the first turn
abbrev pub idle_plan : Tables → List (Option ℕ) → List ℕ → PartialPlan
idle_plan t allowances idle = record {
  channels = map (λ pair. record { channel = pair.0; slots = pair.1; claims = [] }) (zip t.channels idle);
  allowances = allowances;
}

-- what turns still may plan with
abbrev pub ledger_in : PartialPlan → Ledger
ledger_in partial = record { budgets = map budget_in partial.channels; allowances = partial.allowances }

-- after a planned turn
unfoldable pub planned_further : ℕ → Planned → PartialPlan → PartialPlan
planned_further place planned partial = record {
  channels = map (with_turn place planned) partial.channels;
  allowances = allowed_less planned partial.allowances;
}

-- a turn with the shares that such a plan gives it
abbrev pub planned_in : List ℕ → PartialPlan → Turn → Planned
planned_in outstanding partial turn = record { turn = turn; shares = shares_of outstanding (ledger_in partial) turn }

-- Costs without claims.

-- the most minislots that a MAP of a channel can have
abbrev pub most_slots : Channel → ℕ
most_slots c = max_round_ticks / minislot_ticks c.bursts.time

-- what a share costs is taken off,
abbrev pub taken : ℕ → ℕ → ChannelPlan → ChannelPlan
taken header share c = record c { slots = c.slots - share_cost c.channel header share }

-- and given back, up to what a MAP can have
abbrev pub returned : ℕ → ℕ → ChannelPlan → ChannelPlan
returned header share c = record c {
  slots = min (c.slots + share_cost c.channel header share) (most_slots c.channel);
}

-- a channel carries no byte, in no more minislots than a MAP can have
pub record IsFull (c : ChannelPlan) : Type 0 where
  pub carries : weight 0 (Some (budget_in c)) ≡ 0
  pub within : c.slots ≤ most_slots c.channel
