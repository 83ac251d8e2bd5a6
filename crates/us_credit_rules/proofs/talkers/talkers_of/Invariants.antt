use Rattle.std.proofs.Common.{◌≡◌, ◌≤◌, ◌*◌, ◌++◌, drop}
use Rattle.us_credit_rules.proofs.TalkerLemmas.{talkers_from}
use Rattle.us_credit_rules.proofs.talkers.talkers_of.Given as goal

-- what is left to put in leads to the same, and no flow has more than two words
abbrev pub invariant-loop-flow : goal.invariant-loop-flow
invariant-loop-flow l = record {
  left : l.talkers.items ++ talkers_from l.word (drop l.flow-index l.flow-items) ≡ talkers_from 0 l.flow-items;
  few : l.word ≤ 2 * l.flow-index;
}
