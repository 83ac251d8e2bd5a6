use Rattle.std.proofs.Common.{◌≤◌, ◌^◌}
use Rattle.us_map_rules.specs.Failures.{comes_in}
use Rattle.us_map_rules.proofs.CountLemmas.{IsWalked}
use Rattle.us_map_rules.proofs.closings.first_wrong.Given as goal

abbrev pub invariant-loop-number : goal.invariant-loop-number
invariant-loop-number l = record {
  walked : IsWalked (comes_in l.run l.of) l.next l.others l.number-index l.at;
  few : l.at ≤ 2 ^ 64;
}
