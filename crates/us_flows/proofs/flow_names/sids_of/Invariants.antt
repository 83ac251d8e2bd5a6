use Rattle.std.proofs.Common.{◌≡◌, ◌++◌, drop, map, flat_map}
use Rattle.std.specs.Prelude.{zip}
use Rattle.us_flows.specs.Tables.{sids_of}
use Rattle.us_flows.proofs.flow_names.sids_of.Given as goal

-- the pairs so far, and those of the clusters that are left
abbrev pub invariant-loop-sids : goal.invariant-loop-sids
invariant-loop-sids l =
    l.pairs.items ++
    flat_map (λ sids. zip l.flow.channels sids) (map (λ sids. sids.items) (drop l.sids-index l.sids-items)) ≡
    sids_of l.flow
