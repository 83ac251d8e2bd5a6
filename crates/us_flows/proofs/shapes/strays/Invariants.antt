use Rattle.std.proofs.Common.{◌≡◌}
use Rattle.toml.specs.View.{table_view, members_view}
use Rattle.us_flows.specs.Keys.{keys_of}
use Rattle.us_flows.specs.Shapes.{strays}
use Rattle.us_flows.proofs.shapes.strays.Given as goal

abbrev pub invariant-loop-name : goal.invariant-loop-name
invariant-loop-name l = strays (keys_of l.keys) (members_view l.name-iterator) ≡
    strays (keys_of l.keys) (table_view l.table)
