use Rattle.std.proofs.Common.{◌≡◌, ◌==◌, drop, map, length}
use Rattle.std.specs.List.{list_all}
use Rattle.us_flows.proofs.flow_names.have_length.Given as goal

abbrev pub invariant-loop-sids : goal.invariant-loop-sids
invariant-loop-sids l =
    list_all (λ sids. length sids == l.count) (map (λ sids. sids.items) (drop l.sids-index l.clusters)) ≡
    list_all (λ sids. length sids == l.count) (map (λ sids. sids.items) l.clusters)
