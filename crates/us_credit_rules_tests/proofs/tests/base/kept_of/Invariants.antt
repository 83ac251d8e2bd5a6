use Rattle.std.proofs.Common.{take}
use Rattle.us_credit_rules.specs.CreditLines.{AreKept}
use Rattle.us_credit_rules_tests.proofs.tests.base.kept_of.Given as goal

abbrev pub invariant-loop-line : goal.invariant-loop-line
invariant-loop-line l = AreKept l.config l.trace (take l.line-index l.lines) l.kept
