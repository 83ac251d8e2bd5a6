use Rattle.std.proofs.Common.{◌∙◌, sym, ap, not, is_some, arith}
use Rattle.toml.specs.View.{table_view}
use Rattle.us_flows.proofs.FoundLemmas.{there-at}
use Rattle.us_flows.proofs.flow_values.FlowValues.lacks_at.Goals as goal

pub returns-else-is_none : goal.returns-else-is_none
returns-else-is_none c =
    c.if-is_none.false ∙ sym (there-at c.found.result.now (table_view c.args.self.now) c.args.place c.args.name.now _
    c.found.ensures.found (omega (arith, c.found.ensures.count, c.requires.within))
    (ap is_some (sym c.index-found-place.is) ∙ c.is_none.ensures ∙ ap not c.if-is_none.false) c.requires.named)
