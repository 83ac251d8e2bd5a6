use Rattle.std.proofs.Common.{ap, ◌∙◌}
use Rattle.us_flows.specs.Checks.{has_flow}
use Rattle.us_flows.proofs.ListedLemmas.{has_id}
use Rattle.us_flows.proofs.listed.flows.Flows.has.Goals as goal

pub returns : goal.returns
returns c =
    c.contains_key.ensures ∙ has_id (λ flow. flow.id) c.self.inside.map.entries c.self.invariant.flows c.args.id ∙ ap
    (λ flows. has_flow flows c.args.id) c.self.view_is
