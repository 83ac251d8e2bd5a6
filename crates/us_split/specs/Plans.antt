-- The plan of a round (ours): how many bytes each turn may send on each of its flow's channels. It is made in two passes: in
-- the first one each flow with a minimum rate gets what is reserved for it, and in the second one all turns get what is left.
use Rattle.std.specs.Prelude.{ℕ, ◌+◌, ◌-◌, ◌≤◌, ◌≡◌, ◌==◌, nat_lt, min, if◌then◌else◌, List, [], ◌∷◌, map, zip, filter, find, position, set, length, sum, sum_by, slice_get, slice_index, slice_index_or, Option, Some, None, option_map}
use Rattle.us_slots.specs.Lists.{added}
use Rattle.us_slots.specs.Bursts.{grant_cost}
use Rattle.us_slots.specs.Capacities.{capacity_of}
use Rattle.us_flows.specs.declared.channels.Channel.{Channel}
use Rattle.us_flows.specs.Tables.{Tables, FlowTable, map_len, header_bytes}
use Rattle.us_flows.specs.Clusters.{Turn, turns_of}
use Rattle.us_split.specs.Divisions.{divided}

-- the most bytes of a burst
abbrev pub max_burst_bytes : ℕ
max_burst_bytes = 98304

-- a channel and the minislots that are still to be planned on it
pub record Budget : Type 0 where
  pub channel : Channel
  pub slots : ℕ

-- what turns still may plan with: the budget of each channel in table order, and of each flow the bytes that its bucket
-- allows, `None` where it has no limit
pub record Ledger : Type 0 where
  pub budgets : List Budget
  pub allowances : List (Option ℕ)

-- a turn and its shares, one for each channel of its flow in the flow's order
pub record Planned : Type 0 where
  pub turn : Turn
  pub shares : List ℕ

-- Shares.

-- the budget of the channel with this id
abbrev pub budget_of : List Budget → ℕ → Option Budget
budget_of budgets id = find (λ b. b.channel.id == id) budgets

-- the bytes that a channel can carry behind a header, in its long profile; `-` stops at 0
abbrev pub weight : ℕ → Option Budget → ℕ
weight header None = 0
weight header (Some b) = capacity_of b.channel.bursts.time b.channel.bursts.long b.slots - header

-- the weights of a flow's channels
unfoldable pub weights : FlowTable → List Budget → List ℕ
weights flow budgets = map (λ id. weight (header_bytes flow) (budget_of budgets id)) flow.channels

-- no more than a limit, where there is one
abbrev pub at_most : Option ℕ → ℕ → ℕ
at_most None bytes = bytes
at_most (Some most) bytes = min bytes most

-- what a turn asks for: its outstanding bytes, as far as its flow's bucket still allows
abbrev pub demand : List ℕ → Ledger → Turn → ℕ
demand outstanding ledger turn =
    at_most (slice_index_or ledger.allowances turn.place None) (slice_index outstanding turn.number)

-- and what it gets
unfoldable pub shares_of : List ℕ → Ledger → Turn → List ℕ
shares_of outstanding ledger turn =
    divided (demand outstanding ledger turn) (weights turn.cluster.flow ledger.budgets)

-- What is left.

-- the share at a place, 0 where there is none
abbrev pub share_at : List ℕ → Option ℕ → ℕ
share_at shares None = 0
share_at shares (Some place) = slice_index shares place

-- the share of a planned turn on the channel with this id
abbrev pub share_on : ℕ → Planned → ℕ
share_on id planned = share_at planned.shares (position (λ channel. channel == id) planned.turn.cluster.flow.channels)

-- the minislots that a share costs on a channel, behind a header; no share costs none
abbrev pub share_cost : Channel → ℕ → ℕ → ℕ
share_cost c header share = if share == 0 then 0 else (grant_cost c.bursts (share + header)).0

-- the minislots that a planned turn costs on a channel
unfoldable pub cost_on : Channel → Planned → ℕ
cost_on c planned = share_cost c (header_bytes planned.turn.cluster.flow) (share_on c.id planned)

-- each budget falls by what the turn's share on the channel costs
abbrev pub lowered : Planned → List Budget → List Budget
lowered planned budgets =
    map (λ (b : Budget). record b { slots = b.slots - cost_on b.channel planned }) budgets

-- and the flow's allowance by all its shares
abbrev pub allowed_less : Planned → List (Option ℕ) → List (Option ℕ)
allowed_less planned allowances =
    set allowances planned.turn.place
    (option_map (λ most. most - sum planned.shares) (slice_index_or allowances planned.turn.place None))

unfoldable pub after_turn : Ledger → Planned → Ledger
after_turn ledger planned = record {
  budgets = lowered planned ledger.budgets;
  allowances = allowed_less planned ledger.allowances;
}

-- One pass.

-- the shares of the turns, one turn after another
unfoldable pub plan_of : List ℕ → Ledger → List Turn → List Planned
plan_of outstanding ledger [] = []
plan_of outstanding ledger (turn ∷ turns) =
    let planned : Planned = record { turn = turn; shares = shares_of outstanding ledger turn } in
    planned ∷ plan_of outstanding (after_turn ledger planned) turns

-- what is left after a plan
unfoldable pub after_plan : Ledger → List Planned → Ledger
after_plan ledger [] = ledger
after_plan ledger (planned ∷ plan) = after_plan (after_turn ledger planned) plan

-- The first pass: what is reserved.

-- what is reserved for flows with a minimum rate; for others nothing is
abbrev pub min_rate_reserves : List FlowTable → List ℕ → List ℕ
min_rate_reserves flows reserves = map (λ pair. if nat_lt 0 pair.0.min_rate then pair.1 else 0) (zip flows reserves)

-- a flow gets no more than its reserve, and than its bucket allows; no reserve is said to be 0, and need not be listed
abbrev pub first_limits : List (Option ℕ) → List ℕ → List (Option ℕ)
first_limits [] reserves = []
first_limits (allowance ∷ allowances) [] = Some 0 ∷ first_limits allowances []
first_limits (allowance ∷ allowances) (reserve ∷ reserves) =
    Some (at_most allowance reserve) ∷ first_limits allowances reserves

-- the first shares of the turns
abbrev pub first_of : List ℕ → Ledger → List ℕ → List Turn → List Planned
first_of outstanding ledger reserves turns =
    plan_of outstanding (record ledger { allowances = first_limits ledger.allowances reserves }) turns

-- The second pass: what is left.

-- on each channel the turn gets back what its first share cost
abbrev pub given_back : Planned → List Budget → List Budget
given_back first budgets =
    map (λ (b : Budget). record b { slots = b.slots + cost_on b.channel first }) budgets

-- numbers taken off, place by place
abbrev pub minus : List ℕ → List ℕ → List ℕ
minus [] ys = []
minus (x ∷ xs) [] = x ∷ xs
minus (x ∷ xs) (y ∷ ys) = (x - y) ∷ minus xs ys

-- what a turn gets beside its first shares: of the bytes that these leave of its outstanding ones, as many as its flow's bucket
-- still allows, divided over what its channels carry beside them
unfoldable pub more_shares : List ℕ → Ledger → Planned → List ℕ
more_shares outstanding ledger first =
    divided
    (at_most (slice_index_or ledger.allowances first.turn.place None)
    (slice_index outstanding first.turn.number - sum first.shares))
    (minus (weights first.turn.cluster.flow (given_back first ledger.budgets)) first.shares)

-- both make up its shares
abbrev pub with_more : Planned → List ℕ → Planned
with_more first more = record first { shares = added first.shares more }

-- each budget falls by what the whole share costs, in place of the first one; first shares are off the allowance already
unfoldable pub after_both : Ledger → Planned → List ℕ → Ledger
after_both ledger first more = record {
  budgets = lowered (with_more first more) (given_back first ledger.budgets);
  allowances = allowed_less (record first { shares = more }) ledger.allowances;
}

-- all shares of the turns that have these first ones, one turn after another
unfoldable pub second_of : List ℕ → Ledger → List Planned → List Planned
second_of outstanding ledger [] = []
second_of outstanding ledger (first ∷ plan) =
    let more : List ℕ = more_shares outstanding ledger first in
    with_more first more ∷ second_of outstanding (after_both ledger first more) plan

-- The plan.

-- the shares of the turns, of which the first ones were planned before all others
unfoldable pub two_passes : List ℕ → Ledger → List ℕ → List Turn → List Planned
two_passes outstanding ledger reserves turns =
    let first : List Planned = first_of outstanding ledger reserves turns in
    second_of outstanding (after_plan ledger first) first

-- a number of idle minislots for each channel, no more than its MAPs have
pub record IsIdle (t : Tables) (idle : List ℕ) : Type 0 where
  pub one_each : length idle ≡ length t.channels
  pub within : (place : ℕ) (c : Channel) → slice_get t.channels place ≡ Some c →
      slice_index idle place ≤ map_len t c

-- before the first turn: so many minislots are idle on each channel, and so many bytes are allowed of each flow
abbrev pub ledger_of : Tables → List (Option ℕ) → List ℕ → Ledger
ledger_of t allowances idle = record {
  budgets = map (λ pair. record { channel = pair.0; slots = pair.1 }) (zip t.channels idle);
  allowances = allowances;
}

-- the plan of a round: of the bytes outstanding of each word, the allowances and the reserves by flow, and the idle minislots
-- by channel
unfoldable pub plan_for : Tables → List ℕ → List (Option ℕ) → List ℕ → List ℕ → List Planned
plan_for t outstanding allowances reserves idle =
    two_passes outstanding (ledger_of t allowances idle) (min_rate_reserves t.flows reserves) (turns_of t)

-- the bytes of all shares of the flow at a place,
abbrev pub flow_bytes : List Planned → ℕ → ℕ
flow_bytes plan place =
    sum_by (λ planned. sum planned.shares) (filter (λ planned. planned.turn.place == place) plan)

-- and what the plan of a round takes of the flow's reserve: its first shares
unfoldable pub reserved_for : Tables → List ℕ → List (Option ℕ) → List ℕ → List ℕ → ℕ → ℕ
reserved_for t outstanding allowances reserves idle place =
    flow_bytes (first_of outstanding (ledger_of t allowances idle) (min_rate_reserves t.flows reserves) (turns_of t)) place
