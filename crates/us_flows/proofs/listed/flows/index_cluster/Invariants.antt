use Rattle.std.proofs.Common.{◌≡◌, map, zip}
use Rattle.indexmap.specs.IndexMap.{insert_all}
use Rattle.us_flows.specs.Checks.{same_sid}
use Rattle.us_flows.proofs.listed.flows.index_cluster.Given as goal

-- what is left to put in leads to the same
abbrev pub invariant-loop-channel : goal.invariant-loop-channel
invariant-loop-channel l =
    insert_all same_sid l.sids.entries
    (map (λ sid. (sid, l.found)) (zip l.channel-iterator.a.rest.now l.channel-iterator.b.rest.now)) ≡
    insert_all same_sid l.fn.sids.entries (map (λ sid. (sid, l.found)) (zip l.channels l.cluster))
