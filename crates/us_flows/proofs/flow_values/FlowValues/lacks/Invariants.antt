use Rattle.std.proofs.Common.{◌≡◌, drop}
use Rattle.toml.specs.View.{table_view}
use Rattle.us_flows.specs.Keys.{keys_of_type, typed_keys_of, flow_keys}
use Rattle.us_flows.specs.Reading.{kind_at}
use Rattle.us_flows.specs.Shapes.{lacks}
use Rattle.us_flows.proofs.flow_values.FlowValues.lacks.Given as goal

abbrev pub invariant-loop-place : goal.invariant-loop-place
invariant-loop-place l =
    lacks (keys_of_type (kind_at (table_view l.self)) (typed_keys_of (drop l.place l.name-items))) (table_view l.self) ≡
    lacks (flow_keys (kind_at (table_view l.self))) (table_view l.self)
