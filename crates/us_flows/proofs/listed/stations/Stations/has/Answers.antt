use Rattle.std.proofs.Common.{ap, ◌∙◌}
use Rattle.us_flows.specs.Checks.{has_station}
use Rattle.us_flows.proofs.ListedLemmas.{has_id}
use Rattle.us_flows.proofs.listed.stations.Stations.has.Goals as goal

pub returns : goal.returns
returns c =
    c.contains_key.ensures ∙ has_id (λ station. station.id) c.self.inside.map.entries c.self.invariant c.args.id ∙ ap
    (λ stations. has_station stations c.args.id) c.self.view_is
