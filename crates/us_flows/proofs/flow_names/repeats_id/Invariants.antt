use Rattle.std.proofs.Common.{◌≡◌, drop, nat_eq}
use Rattle.us_flows.specs.Checks.{repeats}
use Rattle.us_flows.proofs.flow_names.repeats_id.Given as goal

abbrev pub invariant-loop-place : goal.invariant-loop-place
invariant-loop-place l = repeats nat_eq (drop l.place l.ids) ≡ repeats nat_eq l.ids
