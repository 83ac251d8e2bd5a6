use Rattle.std.proofs.Common.{◌≡◌, ◌-◌, drop, length}
use Rattle.us_reports.specs.ReportReaders.{HasLineFeed, more_digits}
use Rattle.us_reports.proofs.report_fields.more_digits.Given as goal

-- what is left to read gives the answer
abbrev pub invariant-loop-number : goal.invariant-loop-number
invariant-loop-number l = record {
  feed : HasLineFeed l.bytes l.at;
  left : more_digits l.number (drop l.at l.bytes) ≡ more_digits l.fn.high (drop l.fn.from l.bytes);
}

abbrev pub decreases-loop-number : goal.decreases-loop-number
decreases-loop-number l = length l.bytes - l.at
