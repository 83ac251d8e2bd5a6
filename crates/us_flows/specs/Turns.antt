-- The turns of each round, as places in the tables.
use Rattle.std.specs.Prelude.{Option, option_map, option_and_then, slice_get}
use Rattle.us_flows.specs.Tables.{Tables, FlowTable}
use Rattle.us_flows.specs.Clusters as clusters
use Rattle.us_flows.specs.declared.turns.Turn.{Turn}

-- the turn of the cluster at these places; none where the tables have no such flow or cluster
abbrev pub in_flow : Turn → FlowTable → Option clusters.Turn
in_flow turn flow =
    option_map (λ sids. record {
      number = turn.cluster;
      place = turn.flow;
      cluster = record { flow = flow; list = turn.list; sids = sids };
    }) (slice_get flow.clusters turn.list)

abbrev pub turn_at : Tables → Turn → Option clusters.Turn
turn_at t turn = option_and_then (in_flow turn) (slice_get t.flows turn.flow)
