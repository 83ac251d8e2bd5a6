use Rattle.us_reports.proofs.ReportLemmas.{less_left}
use Rattle.us_check.proofs.ReadingLemmas.{read_all, read_fault, read_on, read_start}
use Rattle.us_check.proofs.judging.read_lines.Goals as goal

pub loop-at-init : goal.loop-at-init
loop-at-init c = read_start (λ lines. Unit {0}) c.args.report.now tt

pub loop-at-smaller : goal.loop-at-smaller
loop-at-smaller c = less_left c.args.report.now c.loop-at.at c.in-Some.behind _ c.in-Some.ensures c.loop-at-test.true

pub loop-at-preserved : goal.loop-at-preserved
loop-at-preserved c =
    read_on (λ lines. Unit {0}) (λ lines. Unit {0}) c.args.report.now c.loop-at.number c.loop-at.at _ c.in-Some.behind
    c.loop-at.invariant c.in-Some.ensures c.loop-at-test.true (λ lines is. tt)

pub returns-in_default : goal.returns-in_default
returns-in_default c =
    read_fault (λ lines. Unit {0}) c.args.report.now c.loop-at.number c.loop-at.at c.loop-at.invariant c.loop-at-test.true
    c.in_default.ensures

pub returns : goal.returns
returns c =
    let all = read_all (λ lines. Unit {0}) c.args.report.now c.loop-at.number c.loop-at.at c.loop-at.invariant
    c.loop-at-test.false in
    (all.0, all.1)
