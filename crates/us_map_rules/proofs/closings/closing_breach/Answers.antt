use Rattle.std.proofs.Common.{◌≡◌, ◌∙◌, ap, ap₂, sym}
use Rattle.us_calendar.specs.Occurrences.{ideal}
use Rattle.us_reports.specs.declared.place.Place.{Place}
use Rattle.us_lawful.specs.CalendarLines.{closes, closing_round}
use Rattle.us_reports.proofs.OrderLemmas.{place-is}
use Rattle.us_map_rules.specs.Failures.{times_named}
use Rattle.us_map_rules.specs.Naming.{closing_from}
use Rattle.us_map_rules.proofs.ClosingLemmas.{first_closes, is_open, none_closes}
use Rattle.us_map_rules.proofs.CountLemmas.{if_some}
use Rattle.us_map_rules.proofs.closings.closing_breach.Goals as goal

pub returns-in_err-round : goal.returns-in_err-round
returns-in_err-round c = λ come.
    let run = c.args.run.now in
    let l = c.args.of.now in
    let number = c.first_wrong-number.result in
    let begins : c.ideal.result ≡ ideal l.entry number =
    c.ideal.ensures.value ∙ ap (λ m. ideal m.entry number) c.of.view_is in
    let told = ap₂ (closing_from run) (ap (λ m. m.entry) c.of.view_is) begins in
    rw c.from_residual.ensures
    (none_closes run.tables.channels run (times_named c.args.next c.args.others.now) l number (c.first_wrong-number.ensures.first come)
    (is_open (closes run l.entry number) (closing_round run.tables l.entry number) (c.in_err-round.ensures ∙ told)))

pub returns : goal.returns
returns c = λ come.
    let run = c.args.run.now in
    let l = c.args.of.now in
    let number = c.first_wrong-number.result in
    let begins : c.ideal.result ≡ ideal l.entry number =
    c.ideal.ensures.value ∙ ap (λ m. ideal m.entry number) c.of.view_is in
    let told = ap₂ (closing_from run) (ap (λ m. m.entry) c.of.view_is) begins in
    let round = closing_round run.tables l.entry number in
    let closed = if_some (closes run l.entry number) round c.in_ok-round.round (c.in_ok-round.ensures ∙ told) in
    let at : Place = record { round = c.in_ok-round.round; channel = c.from.result; third = c.from-2.result } in
    first_closes run.tables.channels run (times_named c.args.next c.args.others.now) l number (c.first_wrong-number.ensures.first come)
    at closed.0
    (place-is at (record { round = round; channel = l.channel.id; third = l.entry.id }) (sym closed.1)
    (c.from.ensures ∙ ap (λ i. i.channel.id) c.of-inside.view_is ∙ ap (λ l. l.channel.id) c.of.view_is)
    (c.from-2.ensures ∙ ap (λ i. i.entry.id) c.of-inside.view_is ∙ ap (λ l. l.entry.id) c.of.view_is))
