use Rattle.std.proofs.Common.{◌≡◌, drop}
use Rattle.toml.specs.View.{view}
use Rattle.us_flows.specs.Keys.{keys_of_type, typed_keys_of, flow_keys}
use Rattle.us_flows.specs.Shapes.{allows}
use Rattle.us_flows.proofs.shapes.flow_allows.Given as goal

abbrev pub invariant-loop-listed : goal.invariant-loop-listed
invariant-loop-listed l =
    allows (keys_of_type l.kind (typed_keys_of (drop l.listed-index l.listed-items))) l.name (view l.value) ≡
    allows (flow_keys l.kind) l.name (view l.value)
