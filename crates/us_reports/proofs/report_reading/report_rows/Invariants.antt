use Rattle.std.proofs.Common.{◌-◌, drop, length}
use Rattle.us_reports.proofs.ReportLemmas.{Read}
use Rattle.us_reports.proofs.report_reading.report_rows.Given as goal

abbrev pub invariant-loop-at : goal.invariant-loop-at
invariant-loop-at l = Read l.fn.bytes l.rows.items (drop l.at l.fn.bytes)

abbrev pub decreases-loop-at : goal.decreases-loop-at
decreases-loop-at l = length l.bytes - l.at
