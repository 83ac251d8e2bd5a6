use Rattle.std.proofs.Common.{◌≡◌, ap, sym, ◌∙◌, map, zip, [], inl, inr}
use Rattle.indexmap.specs.IndexMap.{insert_all}
use Rattle.us_flows.specs.Checks.{same_sid}
use Rattle.us_flows.proofs.SidLemmas.{zip-none}
use Rattle.us_flows.proofs.listed.flows.index_cluster.Goals as goal

none_left : (c : goal.In-None) →
    zip c.loop-channel.channel-iterator.a.rest.now c.loop-channel.channel-iterator.b.rest.now ≡ []
none_left c = zip-none _ _ (elim c.in-None.ensures.steps [
  | inl a ↦ inl a.1.0
  | inr b ↦ inr b.1.0
])

pub returns : goal.returns
returns c =
    sym (ap (λ sids. insert_all same_sid c.loop-channel.sids.entries (map (λ sid. (sid, c.args.found)) sids))
    (none_left c)) ∙ c.loop-channel.invariant
