use Rattle.std.proofs.Common.{◌-◌, length}
use Rattle.us_check.proofs.ReadingLemmas.{IsReadTo}
use Rattle.us_check.proofs.judging.read_lines.Given as goal

abbrev pub invariant-loop-at : goal.invariant-loop-at
invariant-loop-at l = IsReadTo (λ lines. Unit {0}) l.report l.number l.at

abbrev pub decreases-loop-at : goal.decreases-loop-at
decreases-loop-at l = length l.report - l.at
