use Rattle.us_credit_rules.specs.Ledgers.{AreAsked}
use Rattle.us_credit_rules.proofs.ledgers.ask_rounds.Given as goal

abbrev pub invariant-loop-round : goal.invariant-loop-round
invariant-loop-round l = AreAsked l.trace l.round l.sums
