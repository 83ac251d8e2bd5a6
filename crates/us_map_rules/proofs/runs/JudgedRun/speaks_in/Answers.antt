use Rattle.std.proofs.Common.{◌≡◌, ◌/◌, Contains, None, Some, ap, sym, subst, ◌∙◌, arith}
use Rattle.us_flows.specs.Lawful.{AreTables}
use Rattle.us_calendar.specs.Activity.{active_in}
use Rattle.us_lawful.specs.CalendarLines.{channel_entries, round_quarters}
use Rattle.us_activity.specs.Marks.{is_active}
use Rattle.us_map_rules.proofs.ListedLemmas.{speaks_always, speaks_as_told}
use Rattle.us_map_rules.proofs.runs.JudgedRun.speaks_in.Goals as goal

pub nonzero_div-round : goal.nonzero_div-round
nonzero_div-round c =
    omega (arith, c.from.ensures, c.round_quarters.ensures.value, c.round_quarters.ensures.lawful.round_ticks.0)

pub returns-in-None : goal.returns-in-None
returns-in-None c =
    let run = c.args.self.now in
    let entry = c.args.of.now.entry in
    let none : entry.silence ≡ None =
    ap (λ l. l.entry.silence) (sym c.of.view_is) ∙ ap (λ l. l.entry.silence) (sym c.of-inside.view_is) ∙ c.in-None.is in
    speaks_always run.cuts entry.silence (c.args.time / round_quarters run.tables) none

pub returns-in-Some : goal.returns-in-Some
returns-in-Some c =
    let run = c.args.self.now in
    let l = c.args.of.now in
    let s = c.in-Some.silence in
    let t = c.self.inside.config.now in
    let v = c.self.inside.trace.now in
    let marks = c.self.inside.activities in
    let is : l.entry.silence ≡ Some s =
    ap (λ m. m.entry.silence) (sym c.of.view_is) ∙ ap (λ m. m.entry.silence) (sym c.of-inside.view_is) ∙ c.in-Some.is in
    let tables : run.tables ≡ t = ap (λ r. r.tables) (sym c.self.view_is) in
    let round = c.args.time / round_quarters run.tables in
    c.is_active.ensures
    ∙ ap (λ quarters. is_active marks s.word (c.args.time / quarters)) (c.from.ensures ∙ c.round_quarters.ensures.value)
    ∙ speaks_as_told t v marks l s round (subst AreTables tables c.round_quarters.ensures.lawful) c.self.invariant.marks
    (subst (λ u. Contains (channel_entries u) l) tables c.requires) is
    ∙ ap (λ r. active_in l.entry.silence r.cuts round) c.self.view_is
