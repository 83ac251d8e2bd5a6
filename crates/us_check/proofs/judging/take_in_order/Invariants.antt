use Rattle.std.proofs.Common.{◌-◌, length, List, []}
use Rattle.us_lawful.specs.Runs.{RoundMap}
use Rattle.us_check.specs.Judges.{AreTold}
use Rattle.us_check.proofs.ReadingLemmas.{IsReadTo}
use Rattle.us_check.proofs.judging.take_in_order.Given as goal

abbrev pub invariant-loop-at : goal.invariant-loop-at
invariant-loop-at l = IsReadTo
    (λ lines. (ms : List RoundMap) → AreTold l.config l.trace l.maps ms [] l.fn.judge →
    AreTold l.config l.trace l.maps ms lines l.judge) l.report l.number l.at

abbrev pub decreases-loop-at : goal.decreases-loop-at
decreases-loop-at l = length l.report - l.at
