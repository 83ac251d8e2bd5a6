use Rattle.std.proofs.Common.{◌≡◌, drop, length}
use Rattle.us_credit_rules.proofs.LedgerLemmas.{AskedWith}
use Rattle.us_credit_rules.proofs.ledgers.ask_all.Given as goal

abbrev pub invariant-loop-ask : goal.invariant-loop-ask
invariant-loop-ask l = record {
  long : length l.sums ≡ length l.fn.sums;
  asked : AskedWith l.fn.sums l.asks l.sums (drop l.ask-index l.asks);
}
