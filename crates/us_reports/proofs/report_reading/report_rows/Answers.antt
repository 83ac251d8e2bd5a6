use Rattle.std.proofs.Common.{◌∙◌}
use Rattle.us_reports.proofs.ReportLemmas.{read_more, less_left, read_bad, read_nothing}
use Rattle.us_reports.proofs.report_reading.report_rows.Goals as goal

pub loop-at-init : goal.loop-at-init
loop-at-init c = rw (c.new-rows.ensures.items) (read_nothing c.args.bytes.now)

pub returns-in_default : goal.returns-in_default
returns-in_default c =
    read_bad c.args.bytes.now c.loop-at.at c.loop-at.rows.items c.len.result c.loop-at.invariant
    (c.len.ensures ∙ c.loop-at.rows.ok.0) c.loop-at-test.true c.in_default.ensures

pub loop-at-smaller : goal.loop-at-smaller
loop-at-smaller c =
    less_left c.args.bytes.now c.loop-at.at c.in-Some.next c.read.new.self c.in-Some.ensures c.loop-at-test.true

pub loop-at-preserved : goal.loop-at-preserved
loop-at-preserved c =
    rw (c.in_ok-push.ensures.items, c.row.ensures)
    (read_more c.args.bytes.now c.loop-at.at c.in-Some.next c.loop-at.rows.items c.read.new.self c.loop-at.invariant
    c.in-Some.ensures)
