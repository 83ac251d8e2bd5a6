use Rattle.std.proofs.Common.{◌≡◌, ◌≤◌, ◌*◌, ◌++◌, drop}
use Rattle.us_flows.specs.Clusters.{turns_from}
use Rattle.us_credit_rules.proofs.seats.seats_of.Given as goal

-- what is left to put in leads to the same, and no flow has more than two words
abbrev pub invariant-loop-place : goal.invariant-loop-place
invariant-loop-place l = record {
  left : l.seats.items ++ turns_from l.place l.word (drop l.place l.flow-items) ≡ turns_from 0 0 l.flow-items;
  few : l.word ≤ 2 * l.place;
}
