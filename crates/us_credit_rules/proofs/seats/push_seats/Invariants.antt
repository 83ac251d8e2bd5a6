use Rattle.std.proofs.Common.{◌≡◌, ◌+◌, ◌++◌, drop}
use Rattle.us_flows.specs.Clusters.{clusters_from, turns_for}
use Rattle.us_credit_rules.proofs.seats.push_seats.Given as goal

-- what is left to put in leads to the same
abbrev pub invariant-loop-list : goal.invariant-loop-list
invariant-loop-list l =
    l.seats.items ++ turns_for l.place (l.word + l.list) (clusters_from l.flow l.list (drop l.list l.flow.clusters)) ≡
    l.fn.seats.items ++ turns_for l.place l.word (clusters_from l.flow 0 l.flow.clusters)
