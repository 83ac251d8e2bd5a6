use Rattle.std.proofs.Common.{ap, ◌∙◌}
use Rattle.std.specs.Map.{lookup, values_of}
use Rattle.us_flows.specs.Clusters.{found_among}
use Rattle.us_flows.specs.Checks.{same_sid}
use Rattle.us_flows.proofs.IndexLemmas.{lookup-asked}
use Rattle.us_flows.proofs.listed.flows.Flows.lookup.Goals as goal

pub returns : goal.returns
returns c =
    let asked = ap (lookup (same_sid (c.args.channel, c.args.sid))) c.self.invariant.sids in
    let flows = lookup-asked c.args.channel c.args.sid (values_of c.self.inside.map.entries) c.self.invariant.apart in
    c.copied.ensures ∙ c.get.ensures.value ∙ asked ∙ flows ∙ ap
    (λ flows. found_among flows c.args.channel c.args.sid) c.self.view_is
