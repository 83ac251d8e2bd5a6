use Rattle.std.proofs.Common.{List, []}
use Rattle.us_lawful.specs.Runs.{RoundMap}
use Rattle.us_reports.proofs.ReportLemmas.{less_left}
use Rattle.us_check.specs.Judges.{AreTold}
use Rattle.us_check.proofs.ReadingLemmas.{read_all, read_fault, read_on, read_start}
use Rattle.us_check.proofs.judging.take_in_order.Goals as goal

pub loop-at-init : goal.loop-at-init
loop-at-init c = read_start (λ lines. (ms : List RoundMap) → AreTold c.args.config.now c.args.trace.now c.args.maps.now ms [] c.args.judge.now →
    AreTold c.args.config.now c.args.trace.now c.args.maps.now ms lines c.args.judge.now) c.args.report.now (λ ms told. told)

pub take-requires : goal.take-requires
take-requires c = (c.requires.0, c.loop-at.invariant.lines, c.loop-at.invariant.is c.requires.0 c.requires.1)

pub loop-at-smaller : goal.loop-at-smaller
loop-at-smaller c = less_left c.args.report.now c.loop-at.at c.in-Some.behind _ c.in-Some.ensures c.loop-at-test.true

pub loop-at-preserved : goal.loop-at-preserved
loop-at-preserved c =
    read_on (λ lines. (ms : List RoundMap) → AreTold c.args.config.now c.args.trace.now c.args.maps.now ms [] c.args.judge.now →
    AreTold c.args.config.now c.args.trace.now c.args.maps.now ms lines c.loop-at.judge)
    (λ lines. (ms : List RoundMap) → AreTold c.args.config.now c.args.trace.now c.args.maps.now ms [] c.args.judge.now →
    AreTold c.args.config.now c.args.trace.now c.args.maps.now ms lines c.take.new.self) c.args.report.now c.loop-at.number c.loop-at.at _ c.in-Some.behind c.loop-at.invariant
    c.in-Some.ensures c.loop-at-test.true (λ lines is ms told.
    rw c.row.ensures at (c.in_ok-take.ensures.told c.if-not-branch.false ms lines (is ms told)))

pub returns-in_default : goal.returns-in_default
returns-in_default c =
    read_fault (λ lines. (ms : List RoundMap) → AreTold c.args.config.now c.args.trace.now c.args.maps.now ms [] c.args.judge.now →
    AreTold c.args.config.now c.args.trace.now c.args.maps.now ms lines c.loop-at.judge) c.args.report.now c.loop-at.number c.loop-at.at c.loop-at.invariant
    c.loop-at-test.true c.in_default.ensures

pub returns : goal.returns
returns c = λ _ ms told.
    let all = read_all (λ lines. (ms : List RoundMap) → AreTold c.args.config.now c.args.trace.now c.args.maps.now ms [] c.args.judge.now →
    AreTold c.args.config.now c.args.trace.now c.args.maps.now ms lines c.loop-at.judge) c.args.report.now c.loop-at.number c.loop-at.at c.loop-at.invariant
    c.loop-at-test.false in
    (all.0, all.1, all.2 ms told)
