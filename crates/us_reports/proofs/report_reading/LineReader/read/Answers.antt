use Rattle.us_reports.proofs.ReportLemmas.{end_begins, line_read}
use Rattle.us_reports.proofs.ReportPlaceLemmas.{before_end}
use Rattle.us_reports.proofs.report_reading.LineReader.read.Goals as goal

pub returns-then-from-end : goal.returns-then-from-end
returns-then-from-end c =
    line_read c.args.bytes.now c.args.from c.line.new.row c.line.result
    (before_end c.args.bytes.now c.args.end c.args.from c.requires c.if-from-end.true) c.line.ensures.read
    c.line.ensures.within

pub returns-else-from-end : goal.returns-else-from-end
returns-else-from-end c = end_begins c.args.bytes.now c.args.end c.args.from c.requires c.if-from-end.false
