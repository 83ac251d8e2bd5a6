use Rattle.std.proofs.Common.{◌≡◌, drop}
use Rattle.us_flows.specs.Keys.{typed_keys_of}
use Rattle.us_flows.specs.KeyValues.{place_from, place_of}
use Rattle.us_flows.proofs.flow_values.place_of.Given as goal

abbrev pub invariant-loop-place : goal.invariant-loop-place
invariant-loop-place l = place_from l.place (typed_keys_of (drop l.place l.listed-items)) l.name ≡ place_of l.name
