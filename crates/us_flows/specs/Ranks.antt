-- How the turns of a round come to be: in table order first, then sorted by rank. Nothing of this is seen from outside.
use Rattle.std.specs.Prelude.{◌≡◌, ℕ, ◌+◌, ◌-◌, ◌≤◌, map, if◌then◌else◌, List, [], ◌∷◌, ◌++◌, length, Option, Some, None, slice_get}
use Rattle.us_flows.specs.Tables.{Tables, FlowTable}
use Rattle.us_flows.specs.Clusters.{makes_requests, words_in, turns_of}
use Rattle.us_flows.specs.Turns.{turn_at}
use Rattle.us_flows.specs.Lawful.{AreTables}
use Rattle.us_flows.specs.declared.turns.Turn.{Turn}

-- the turns of clusters of the flow at this place: the first has the word of this number and this place in the flow
abbrev pub cluster_turns : ℕ → ℕ → ℕ → List (List ℕ) → List Turn
cluster_turns place number list [] = []
cluster_turns place number list (sids ∷ rest) =
    record { flow = place; list = list; cluster = number } ∷ cluster_turns place (number + 1) (list + 1) rest

-- those of the flow at this place
abbrev pub flow_turns : ℕ → ℕ → FlowTable → List Turn
flow_turns place number flow = if makes_requests flow.kind then cluster_turns place number 0 flow.clusters else []

-- and of flows, of which the first is at this place
abbrev pub table_turns : ℕ → ℕ → List FlowTable → List Turn
table_turns place number [] = []
table_turns place number (flow ∷ flows) =
    flow_turns place number flow ++ table_turns (place + 1) (number + length (words_in flow)) flows

-- what a turn is sorted by, the least first
abbrev pub rank_in : ℕ → Option FlowTable → ℕ × ℕ × ℕ
rank_in list (Some flow) = (255 - flow.priority, flow.id, list)
rank_in list None = (0, 0, list)

abbrev pub rank_of : List FlowTable → Turn → ℕ × ℕ × ℕ
rank_of flows turn = rank_in turn.list (slice_get flows turn.flow)

-- a flow whose numbers have room in a rank
pub record IsRanked (flow : FlowTable) : Type 0 where
  pub id : flow.id ≤ 65535
  pub priority : flow.priority ≤ 255
  pub clusters : length flow.clusters ≤ 65535

-- tables without a fault, and their turns
pub record IsConfig (t : Tables) (turns : List Turn) : Type 0 where
  pub tables : AreTables t
  pub turns_are : map (turn_at t) turns ≡ map Some (turns_of t)
