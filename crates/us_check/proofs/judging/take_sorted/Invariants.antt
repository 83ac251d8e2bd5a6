use Rattle.std.proofs.Common.{◌<◌, ◌≤◌, List, [], get_or, length, take}
use Rattle.us_lawful.specs.Runs.{RoundMap}
use Rattle.us_check.specs.Judges.{AreTold, lines_there}
use Rattle.us_check.proofs.judging.take_sorted.Given as goal

abbrev pub invariant-loop-standing : goal.invariant-loop-standing
invariant-loop-standing l = record {
  told : (ms : List RoundMap) → AreTold l.config l.trace l.maps ms [] l.fn.judge →
      AreTold l.config l.trace l.maps ms (lines_there l.report (take l.standing-index l.standings)) l.judge;
  next : l.standing-index < length l.standings →
      l.judge.regions.number ≤ (get_or l.standings l.standing-index (record { map = 0; at = 0 })).map;
}
