use Rattle.std.proofs.Common.{◌≡◌, ◌++◌, drop}
use Rattle.std.specs.Prelude.{zip}
use Rattle.us_flows.proofs.flow_names.push_pairs.Given as goal

-- what is added, and what is left to add
abbrev pub invariant-loop-place : goal.invariant-loop-place
invariant-loop-place l =
    l.pairs.items ++ zip (drop l.place l.channels) (drop l.place l.sids) ≡ l.fn.pairs.items ++ zip l.channels l.sids
