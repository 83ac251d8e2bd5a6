use Rattle.std.proofs.Common.{◌≡◌, drop}
use Rattle.toml.specs.View.{table_view}
use Rattle.us_flows.specs.Keys.{keys_of}
use Rattle.us_flows.specs.Shapes.{lacks}
use Rattle.us_flows.proofs.shapes.lacks.Given as goal

abbrev pub invariant-loop-name : goal.invariant-loop-name
invariant-loop-name l = lacks (keys_of (drop l.name-index l.keys)) (table_view l.table) ≡
    lacks (keys_of l.keys) (table_view l.table)
