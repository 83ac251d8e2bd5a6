use Rattle.std.proofs.Common.{◌≡◌, drop}
use Rattle.toml.specs.View.{view}
use Rattle.us_flows.specs.Keys.{keys_of}
use Rattle.us_flows.specs.Shapes.{allows}
use Rattle.us_flows.proofs.shapes.allows.Given as goal

abbrev pub invariant-loop-listed : goal.invariant-loop-listed
invariant-loop-listed l = allows (keys_of (drop l.listed-index l.keys)) l.name (view l.value) ≡
    allows (keys_of l.keys) l.name (view l.value)
