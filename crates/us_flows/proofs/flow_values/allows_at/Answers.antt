use Rattle.std.proofs.Common.{◌∙◌, sym}
use Rattle.toml.specs.View.{view}
use Rattle.us_flows.proofs.FoundLemmas.{allowed-at}
use Rattle.us_flows.proofs.flow_values.allows_at.Goals as goal

pub returns-then-have : goal.returns-then-have
returns-then-have c =
    c.keeps.ensures ∙ allowed-at c.args.kind c.all_flow_keys.result.now c.args.name.now (view c.args.value.now) _
    c.args.place c.all_flow_keys.ensures.keys c.requires.named (sym c.have.ensures ∙ c.if-have.true)
