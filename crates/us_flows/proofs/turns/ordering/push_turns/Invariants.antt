use Rattle.std.proofs.Common.{◌≡◌, ◌+◌, ◌++◌, drop}
use Rattle.us_flows.specs.Ranks.{cluster_turns}
use Rattle.us_flows.proofs.turns.ordering.push_turns.Given as goal

-- what is left to put in leads to the same
abbrev pub invariant-loop-list : goal.invariant-loop-list
invariant-loop-list l =
    l.turns.items ++ cluster_turns l.place (l.number + l.list) l.list (drop l.list l.flow.clusters) ≡
    l.fn.turns.items ++ cluster_turns l.place l.number 0 l.flow.clusters
