use Rattle.std.proofs.Common.{◌-◌, length}
use Rattle.us_check.proofs.ReadingLemmas.{AreStandingsOf, IsReadTo}
use Rattle.us_check.proofs.judging.standings_as_read.Given as goal

abbrev pub invariant-loop-at : goal.invariant-loop-at
invariant-loop-at l = IsReadTo (AreStandingsOf l.config l.trace.rounds l.report l.standings.items) l.report
    (length l.standings.items) l.at

abbrev pub decreases-loop-at : goal.decreases-loop-at
decreases-loop-at l = length l.report - l.at
