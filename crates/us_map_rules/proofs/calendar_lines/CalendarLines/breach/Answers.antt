use Rattle.std.proofs.Common.{◌≡◌, true, ap, subst, sym}
use Rattle.us_lawful.specs.CalendarLines.{calendar_lines_hold}
use Rattle.us_reports.specs.Breaches.{IsFirstBreach}
use Rattle.us_map_rules.specs.Told.{AreTold}
use Rattle.us_map_rules.proofs.RuleLemmas.{rule_first}
use Rattle.us_map_rules.proofs.calendar_lines.CalendarLines.breach.Goals as goal

pub returns : goal.returns
returns c = λ judged before.
    let inside = c.self.inside in
    let was = subst (AreTold judged.lines) (sym c.self.view_is) before in
    subst
    (λ run. IsFirstBreach run.tables.channels (λ p. calendar_lines_hold run judged p ≡ true) c.earlier.result)
    (ap (λ s. s.run) c.self.view_is) (
    rw (c.earlier.ensures, c.channels.ensures) (
    rule_first inside.run inside.listed judged inside.run.tables.channels inside.first
    c.entries_breach-others.result c.self.invariant.0 was.first
    ((rw c.entries.ensures at c.entries_breach-others.ensures.first) judged.lines was.told)))
