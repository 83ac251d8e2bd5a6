use Rattle.std.proofs.Common.{◌≡◌, ◌+◌, map, drop}
use Rattle.indexmap.specs.IndexMap.{insert_all}
use Rattle.us_flows.specs.Checks.{same_sid}
use Rattle.us_flows.specs.Listed.{asks, asked_from, asked_of}
use Rattle.us_flows.proofs.listed.flows.index_flow.Given as goal

-- what is left to put in leads to the same
pub record Fills (l : goal.Live-loop-cluster) : Type 0 where
  pub place : l.list ≡ l.cluster-index
  pub rest :
      insert_all same_sid l.sids.entries (asked_from (asks l.flow.kind l.number) (l.number + l.cluster-index) l.flow.channels
      (map (λ sids. sids.items) (drop l.cluster-index l.cluster-items))) ≡
      insert_all same_sid l.fn.sids.entries (asked_of l.number l.flow)

abbrev pub invariant-loop-cluster : goal.invariant-loop-cluster
invariant-loop-cluster l = Fills l
