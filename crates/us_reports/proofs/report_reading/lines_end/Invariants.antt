use Rattle.std.proofs.Common.{◌≢◌, ℕ, ◌≤◌, length, Some}
use Rattle.std.specs.Prelude.{slice_get}
use Rattle.us_reports.proofs.report_reading.lines_end.Given as goal

-- no line feed stands behind
abbrev pub invariant-loop-end : goal.invariant-loop-end
invariant-loop-end l = record {
  within : l.end ≤ length l.bytes;
  none : (at : ℕ) → l.end ≤ at → slice_get l.bytes at ≢ Some 10;
}

abbrev pub decreases-loop-end : goal.decreases-loop-end
decreases-loop-end l = l.end
