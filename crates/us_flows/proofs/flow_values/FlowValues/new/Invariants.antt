use Rattle.std.proofs.Common.{◌≡◌, ◌||◌}
use Rattle.toml.specs.View.{table_view, members_view}
use Rattle.us_flows.specs.Keys.{flow_keys}
use Rattle.us_flows.specs.Shapes.{strays}
use Rattle.us_flows.proofs.FoundLemmas.{IsPartFound}
use Rattle.us_flows.proofs.flow_values.FlowValues.new.Given as goal

abbrev pub invariant-loop-name : goal.invariant-loop-name
invariant-loop-name l =
    IsPartFound l.values (members_view l.name-iterator) (table_view l.table)
    × ((l.strays || strays (flow_keys l.kind) (members_view l.name-iterator)) ≡
    strays (flow_keys l.kind) (table_view l.table))
