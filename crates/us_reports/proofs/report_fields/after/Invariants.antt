use Rattle.std.proofs.Common.{◌≡◌, drop}
use Rattle.us_reports.specs.ReportReaders.{HasLineFeed, after}
use Rattle.us_reports.proofs.report_fields.after.Given as goal

-- what is left of the word, behind what was read of it
abbrev pub invariant-loop-byte : goal.invariant-loop-byte
invariant-loop-byte l = record {
  feed : HasLineFeed l.bytes l.at;
  left : after (drop l.byte-index l.word) (drop l.at l.bytes) ≡ after l.fn.word (drop l.fn.from l.bytes);
}
