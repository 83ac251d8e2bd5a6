use Rattle.std.proofs.Common.{take}
use Rattle.us_reports.specs.Breaches.{Any, IsFirstFailure}
use Rattle.us_map_rules.specs.Failures.{OpenFails, times_named}
use Rattle.us_map_rules.proofs.closings.doubled_breach.Given as goal

-- the first breach of the lines so far
abbrev pub invariant-loop-line : goal.invariant-loop-line
invariant-loop-line l =
    IsFirstFailure l.run.tables.channels
    (Any (OpenFails (times_named l.next l.others)) (take l.line-index l.open_lines)) l.first
