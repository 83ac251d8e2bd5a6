use Rattle.std.proofs.Common.{nat_le, get_or, refl, arith}
use Rattle.us_reports.specs.Breaches.{IsFirstFailure}
use Rattle.us_reports.proofs.BreachLemmas.{all_done, at_test, one_more}
use Rattle.us_map_rules.specs.declared.told.OpenLine.{OpenLine}
use Rattle.us_map_rules.specs.Failures.{OpenFails, times_named}
use Rattle.us_map_rules.proofs.closings.doubled_breach.Goals as goal

pub loop-line-preserved : goal.loop-line-preserved
loop-line-preserved c =
    let channels = c.args.run.now.tables.channels in
    let times = times_named c.args.next c.args.others.now in
    let none : OpenLine = record { number = 0; at = record { round = 0; channel = 0; third = 0 } } in
    let line : OpenLine = get_or c.args.open_lines.now c.loop-line.line-index none in
    let one : IsFirstFailure channels (OpenFails times line) c.unless-breach.result =
    rw (c.unless-breach.ensures, c.is_once.ensures) (at_test channels line.at (nat_le (times line.number) 1)) in
    rw (c.earlier-first.ensures, c.channels.ensures) (
    one_more channels (OpenFails times) c.args.open_lines.now c.loop-line.line-index line none _ _ (omega arith) refl
    c.loop-line.invariant one)

pub returns : goal.returns
returns c =
    all_done c.args.run.now.tables.channels (OpenFails (times_named c.args.next c.args.others.now)) c.args.open_lines.now
    c.loop-line.line-index c.loop-line.first (omega arith) c.loop-line.invariant
