use Rattle.std.proofs.Common.{◌∙◌}
use Rattle.us_flows.proofs.CopyLemmas.{MayFollow, may_follow}
use Rattle.us_flows.proofs.listed.flows.Flows.copied.Goals as goal

follows : (c : goal.In_ok-copy) → MayFollow c.loop-flow.copy c.in_ok-copy.field-0
follows c =
    may_follow c.loop-flow.copy c.args.flows.now c.loop-flow.flow-index c.in_ok-copy.field-0 _ c.loop-flow.invariant
    (c.in_ok-copy.ensures ∙ c.flow-item.is) c.loop-flow-test.true c.requires.ids c.requires.sids

pub pushed-requires-clause-id : goal.pushed-requires-clause-id
pushed-requires-clause-id c = (follows c).id

pub pushed-requires-clause-sids : goal.pushed-requires-clause-sids
pushed-requires-clause-sids c = (follows c).sids

pub pushed-requires-clause-apart : goal.pushed-requires-clause-apart
pushed-requires-clause-apart c = (follows c).apart
