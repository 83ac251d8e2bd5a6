use Rattle.std.proofs.Common.{◌≡◌, drop}
use Rattle.us_flows.specs.Checks.{repeats, same_sid}
use Rattle.us_flows.proofs.flow_names.repeats_sid.Given as goal

abbrev pub invariant-loop-place : goal.invariant-loop-place
invariant-loop-place l = repeats same_sid (drop l.place l.sids) ≡ repeats same_sid l.sids
