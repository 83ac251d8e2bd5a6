use Rattle.std.proofs.Common.{◌+◌, ◌≤◌, length}
use Rattle.us_lawful.specs.Runs.{run_in}
use Rattle.us_map_rules.proofs.HeadingLemmas.{Walked}
use Rattle.us_map_rules.proofs.headings.headings_breach.Given as goal

abbrev pub invariant-loop-rest : goal.invariant-loop-rest
invariant-loop-rest l =
    Walked (run_in l.config l.trace) l.file l.rest l.number l.other × (l.number + length l.rest ≤ length l.file)

abbrev pub decreases-loop-rest : goal.decreases-loop-rest
decreases-loop-rest l = length l.rest
