use Rattle.std.proofs.Common.{◌≡◌, ap, sym, ◌∙◌, arith}
use Rattle.us_calendar.specs.Occurrences.{ideal}
use Rattle.us_lawful.specs.CalendarLines.{speaks_in}
use Rattle.us_map_rules.proofs.ClosingLemmas.{due_next}
use Rattle.us_map_rules.proofs.closings.coming.Goals as goal

pub returns-clause-due : goal.returns-clause-due
returns-clause-due c =
    let run = c.args.run.now in
    let l = c.args.of.now in
    let entry = ap (λ e. e.grants) c.entry.view_is ∙ ap (λ l. l.entry.grants) c.of.view_is in
    let grants : c.from-grants.result ≡ l.entry.grants = c.from-grants.ensures ∙ entry in
    rw grants
    (due_next run l c.args.number (omega (arith, entry, c.entry.invariant.grants))
    (λ none. c.if-number-grants-eq0.false (rw grants none))
    (ap (speaks_in run l.entry) (sym (c.ideal.ensures.value ∙ ap (λ m. ideal m.entry c.args.number) c.of.view_is))
    ∙ sym c.speaks_in.ensures ∙ c.if-speaks_in.false))
