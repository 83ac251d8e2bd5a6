use Rattle.std.proofs.Common.{None, subst, sym}
use Rattle.std.specs.Prelude.{if◌then◌else◌}
use Rattle.us_reports.proofs.BreachLemmas.{one_behind}
use Rattle.us_reports.specs.Breaches.{IsFirstFailure}
use Rattle.us_map_rules.specs.Failures.{LineFails}
use Rattle.us_map_rules.specs.Naming.{calendar_place}
use Rattle.us_map_rules.specs.Told.{AreTold}
use Rattle.us_map_rules.proofs.TakingLemmas.{none_behind}
use Rattle.us_map_rules.proofs.calendar_lines.CalendarLines.take.Goals as goal

pub returns-then-right-clause-told : goal.returns-then-right-clause-told
returns-then-right-clause-told c = λ lines before.
    let inside = c.self.inside in
    let was = subst (AreTold lines) (sym c.self.view_is) before in
    record {
      told = c.in_ok-right.ensures.told lines was.told;
      first = none_behind inside.run.tables.channels (LineFails inside.run inside.listed) lines c.args.row.now
          inside.first was.first
          (subst (λ b. IsFirstFailure inside.run.tables.channels (LineFails inside.run inside.listed c.args.row.now)
          (if b then None else calendar_place c.args.row.now)) c.if-right.true c.in_ok-right.ensures.first);
    }

pub returns-clause-told : goal.returns-clause-told
returns-clause-told c = λ lines before.
    let inside = c.self.inside in
    let was = subst (AreTold lines) (sym c.self.view_is) before in
    record {
      told = c.in_ok-right.ensures.told lines was.told;
      first = rw (c.earlier-self-inside.ensures, c.channels.ensures, c.calendar_place.ensures) (
          one_behind inside.run.tables.channels (LineFails inside.run inside.listed) lines c.args.row.now
          inside.first (calendar_place c.args.row.now) was.first
          (subst (λ b. IsFirstFailure inside.run.tables.channels (LineFails inside.run inside.listed c.args.row.now)
          (if b then None else calendar_place c.args.row.now)) c.if-right.false c.in_ok-right.ensures.first));
    }
