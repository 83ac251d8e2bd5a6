use Rattle.us_findings.proofs.LineLemmas.{IsBehind}
use Rattle.us_findings.proofs.lines.line_and_column.Given as goal

abbrev pub invariant-loop-byte : goal.invariant-loop-byte
invariant-loop-byte l = IsBehind l.before l.byte-index l.line l.column
