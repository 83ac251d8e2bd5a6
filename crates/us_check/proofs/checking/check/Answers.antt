use Rattle.std.proofs.Common.{Ok, sym, subst}
use Rattle.us_lawful.specs.Runs.{Judged, run_in}
use Rattle.us_check.specs.declared.verdicts.Verdict.{Verdict}
use Rattle.us_check.specs.Verdicts.{Answers}
use Rattle.us_check.proofs.NamedLaws.{broken_by_parts}
use Rattle.us_check.proofs.checking.check.Goals as goal

pub returns-in-None : goal.returns-in-None
returns-in-None c =
    let maps = rw c.in_default.is at c.maps_breach.ensures in
    let all = c.in_ok-lines_breach.ensures maps.0 maps.1 maps.2 in
    let holds = rw c.in-None.is at all.2 in
    record {
      judged = record { maps = maps.0; lines = all.0 };
      maps_spelled = maps.1.spelled;
      rows = all.1.each;
      report_spelled = all.1.spelled;
      lawful = record {
        maps = maps.1.each;
        headings = holds.0;
        places = holds.1.0;
        regions = holds.1.1.0;
        calendar_lines = holds.1.1.1.0;
        rates = holds.1.1.1.1.0;
        credits = holds.1.1.1.1.1.0;
        finals = holds.1.1.1.1.1.1.0;
        activities = holds.1.1.1.1.1.1.1.0;
        counts = holds.1.1.1.1.1.1.1.1.0;
      };
    }

pub returns-in-Some-2 : goal.returns-in-Some-2
returns-in-Some-2 c =
    let maps = rw c.in_default.is at c.maps_breach.ensures in
    let all = c.in_ok-lines_breach.ensures maps.0 maps.1 maps.2 in
    let judged : Judged = record { maps = maps.0; lines = all.0 } in
    subst (λ (verdict : Verdict). Answers (run_in c.args.config.now c.args.trace.now) c.args.maps.now c.args.report.now (Ok verdict))
    (sym c.from-in-Some-2.ensures)
    (broken_by_parts (run_in c.args.config.now c.args.trace.now) c.args.maps.now c.args.report.now judged
    (record { records = maps.1; lines = all.1 }) c.in-Some-2.breach.rule c.in-Some-2.breach.place (rw c.in-Some-2.is at all.2))

pub returns-in-Some : goal.returns-in-Some
returns-in-Some c =
    let read = c.in_ok-read_lines.ensures in
    subst (λ (verdict : Verdict). Answers (run_in c.args.config.now c.args.trace.now) c.args.maps.now c.args.report.now (Ok verdict))
    (sym c.from.ensures) (c.in-Some.ensures c.args.report.now read.0 read.1)
