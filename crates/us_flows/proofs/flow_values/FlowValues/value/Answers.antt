use Rattle.std.proofs.Common.{arith}
use Rattle.toml.specs.View.{table_view}
use Rattle.us_flows.proofs.FoundLemmas.{value-at}
use Rattle.us_flows.proofs.flow_values.FlowValues.value.Goals as goal

pub returns : goal.returns
returns c =
    value-at c.found.result.now (table_view c.args.self.now) c.args.place c.index-found-place.result _ c.found.ensures.found
    (omega (arith, c.found.ensures.count, c.requires.within)) c.index-found-place.is c.requires.first
