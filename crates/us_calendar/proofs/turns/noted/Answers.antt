use Rattle.std.proofs.Common.{◌≡◌, ◌+◌, ◌≤◌, ◌++◌, [], ◌∷◌, length, map, true, ap, sym, subst, ◌∙◌, arith}
use Rattle.std.proofs.lemmas.List.{length-append}
use Rattle.std.specs.List.{AllByRecursion}
use Rattle.us_flows.proofs.TurnLemmas.{all-append}
use Rattle.us_calendar.specs.Settling.{opening_state}
use Rattle.us_calendar.specs.Kept.{IsEntryState}
use Rattle.us_calendar.specs.Agendas.{IsAgenda, IsChanged, is_noted}
use Rattle.us_calendar.proofs.AgendaLemmas.{none_noted, one_noted, states_more}
use Rattle.us_calendar.proofs.turns.noted.Goals as goal

pub loop-entry-init : goal.loop-entry-init
loop-entry-init c =
    let items = c.in_ok-states.ensures.items in
    record {
      states = ap (λ ss. ss ++ map opening_state c.args.entries.now) items;
      count = ap length items;
      room = c.in_ok-agenda.ensures.room;
      known = subst (AllByRecursion IsEntryState) (sym items) tt;
      agenda = subst (λ ss. IsAgenda c.args.span.now.pace 0 0 ss c.in_ok-agenda.agenda) (sym items)
          (none_noted c.args.span.now.pace c.in_ok-agenda.agenda c.in_ok-agenda.ensures.round c.in_ok-agenda.ensures.none);
    }

pub loop-entry-preserved : goal.loop-entry-preserved
loop-entry-preserved c =
    let l = c.loop-entry in
    let items = c.in_ok-push.ensures.items in
    let old = l.states.items in
    let pace = c.args.span.now.pace in
    let put = subst (λ n. IsChanged (is_noted l.agenda) (is_noted c.note.new.self) c.due_round.result n true)
    (c.len.ensures ∙ l.states.ok.0) c.in_ok-note.ensures.noted in
    let room : length c.args.entries.now ≤ length c.note.new.self.near = omega (arith, l.invariant.room, c.in_ok-note.ensures.room) in
    let agenda = one_noted pace old c.new-state.result c.due_round.result l.agenda c.note.new.self l.invariant.agenda
    c.due_round.ensures put c.in_ok-note.ensures.round (omega (arith, room, l.invariant.count, c.loop-entry-test.true)) in
    record {
      states = states_more opening_state c.args.entries.now l.entry-index c.entry-item.result
          c.new-state.result old c.push.new.self.items (map opening_state c.args.entries.now)
          c.loop-entry-test.true c.entry-item.is c.new-state.ensures.value items l.invariant.states;
      count = subst (λ rs. length rs ≡ l.entry-index + 1) (sym items)
          (omega (arith, l.invariant.count, length-append old (c.new-state.result ∷ [])));
      room = room;
      known = subst (AllByRecursion IsEntryState) (sym items)
          (all-append IsEntryState old (c.new-state.result ∷ []) l.invariant.known (c.new-state.ensures.known, tt));
      agenda = subst (λ rs. IsAgenda pace 0 0 rs c.note.new.self) (sym items) agenda;
    }
