use Rattle.us_reports.specs.Fronts.{Remembers}
use Rattle.std.proofs.Common.{Some}
use Rattle.us_output.specs.declared.rows.Row.TheVariants as rows
use Rattle.us_reports.proofs.FrontLemmas.{granted}
use Rattle.us_reports.proofs.report_lines.line.Goals as goal

pub returns-in-Granted-clause-read : goal.returns-in-Granted-clause-read
returns-in-Granted-clause-read c =
    let front : Remembers (Some c.in-Some.known) (rows.Granted c.in-Granted.grant) =
    rw (c.in-Some.is, c.in-Granted.is) at c.requires.front in
    granted c.args.bytes.now c.args.from c.in-Some-behind.at c.in-Granted.grant.round c.in-Granted.grant.channel
    c.grant_tail.new.grant c.grant_tail.result (c.in-Some-behind.ensures.1 _ front.2) front.0 front.1
    c.grant_tail.ensures.read
