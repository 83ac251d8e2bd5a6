use Rattle.std.proofs.Common.{◌+◌, length, get_or, ap, sym, subst, ◌∙◌, arith}
use Rattle.us_calendar.specs.Agendas.{IsNone, is_noted}
use Rattle.us_calendar.proofs.EntryStateLemmas.{round_early}
use Rattle.std.proofs.lemmas.Option.{slice_get-get_or}
use Rattle.std.proofs.lemmas.List.{length-set}
use Rattle.us_calendar.proofs.AgendaLemmas.{going-starts, place_within, yet, going-step, ends_states, ends_board, ends_told, ends_agenda, none_before}
use Rattle.us_calendar.proofs.turns.settle_noted.Goals as goal

pub loop-place-smaller : goal.loop-place-smaller
loop-place-smaller c =
    let l = c.loop-place in
    let inside = place_within c.args.span.now.pace c.args.span.now.round c.args.states.now c.args.board.now c.args.settled.now.items l.from
    l.states l.board l.settled.items l.agenda l.invariant c.in-Some.place c.in-Some.ensures.first in
    let low = yet c.args.span.now.pace c.args.span.now.round c.args.states.now c.args.board.now c.args.settled.now.items l.from
    l.states l.board l.settled.items l.agenda l.invariant c.in-Some.place c.in-Some.ensures.first in
    omega (arith, inside, low, length-set l.states c.in-Some.place c.run.new.self)

pub loop-place-preserved : goal.loop-place-preserved
loop-place-preserved c =
    let l = c.loop-place in
    let place = c.in-Some.place in
    let inside = place_within c.args.span.now.pace c.args.span.now.round c.args.states.now c.args.board.now c.args.settled.now.items l.from
    l.states l.board l.settled.items l.agenda l.invariant place c.in-Some.ensures.first in
    going-step c.args.span.now.pace c.args.span.now.round c.args.states.now c.args.board.now c.args.settled.now.items l.from
    l.states l.board l.settled.items l.agenda l.invariant place c.in-Some.ensures.first (get_or l.states place c.index-states-place.result) c.run.new.self
    c.run.new.board c.run.new.settled.items c.in_ok-at.at c.take_from.new.self c.note.new.self
    (slice_get-get_or l.states place c.index-states-place.result inside) c.in_ok-at.ensures.state
    c.in_ok-at.ensures.board c.in_ok-at.ensures.told c.in_ok-at.ensures.next c.in-Some.ensures.taken
    c.in_ok-note.ensures.noted (c.in_ok-note.ensures.round ∙ c.in-Some.ensures.round)
    (c.in_ok-note.ensures.room ∙ c.in-Some.ensures.room) c.run.ensures.len c.run.ensures.known

pub returns-clause-states : goal.returns-clause-states
returns-clause-states c =
    let l = c.loop-place in
    ends_states c.args.span.now.pace c.args.span.now.round c.args.states.now c.args.board.now c.args.settled.now.items l.from
    l.states l.board l.settled.items l.agenda l.invariant c.in_default.ensures.none

pub returns-clause-board : goal.returns-clause-board
returns-clause-board c =
    let l = c.loop-place in
    ends_board c.args.span.now.pace c.args.span.now.round c.args.states.now c.args.board.now c.args.settled.now.items l.from
    l.states l.board l.settled.items l.agenda l.invariant c.in_default.ensures.none

pub returns-clause-settled : goal.returns-clause-settled
returns-clause-settled c =
    let l = c.loop-place in
    ends_told c.args.span.now.pace c.args.span.now.round c.args.states.now c.args.board.now c.args.settled.now.items l.from
    l.states l.board l.settled.items l.agenda l.invariant c.in_default.ensures.none

pub take_from-requires : goal.take_from-requires
take_from-requires c =
    let l = c.loop-place in
    none_before c.args.span.now.pace c.args.span.now.round c.args.states.now c.args.board.now c.args.settled.now.items l.from
    l.states l.board l.settled.items l.agenda l.invariant

pub returns-clause-agenda : goal.returns-clause-agenda
returns-clause-agenda c =
    let l = c.loop-place in
    let same = c.in_default.ensures.unchanged in
    ends_agenda c.args.span.now.pace c.args.span.now.round c.args.states.now c.args.board.now c.args.settled.now.items l.from
    l.states l.board l.settled.items l.agenda l.invariant c.in_default.ensures.none c.end_round.new.self
    (c.end_round.ensures.round ∙ ap (λ a. a.round + 1) same)
    (c.end_round.ensures.room ∙ ap (λ a. length a.near) same)
    (λ at p low. c.end_round.ensures.noted at p low ∙ ap (λ a. is_noted a at p) same)

pub end_round-requires-clause-over : goal.end_round-requires-clause-over
end_round-requires-clause-over c =
    subst (λ a. IsNone (is_noted a a.round)) (sym c.in_default.ensures.unchanged) c.in_default.ensures.none

pub end_round-requires-clause-early : goal.end_round-requires-clause-early
end_round-requires-clause-early c =
    let early = round_early c.args.span.now.pace c.args.span.now.round c.args.span.now.known c.args.span.now.time in
    omega (arith, early, ap (λ a. a.round) c.in_default.ensures.unchanged, c.loop-place.invariant.notes.now)

pub bounds-states-place : goal.bounds-states-place
bounds-states-place c =
    let l = c.loop-place in
    place_within c.args.span.now.pace c.args.span.now.round c.args.states.now c.args.board.now c.args.settled.now.items l.from
    l.states l.board l.settled.items l.agenda l.invariant c.in-Some.place c.in-Some.ensures.first

pub note-requires-clause-later : goal.note-requires-clause-later
note-requires-clause-later c =
    omega (arith, c.in-Some.ensures.round, c.loop-place.invariant.notes.now, c.in_ok-at.ensures.next)

pub note-requires-clause-inside : goal.note-requires-clause-inside
note-requires-clause-inside c =
    let l = c.loop-place in
    let inside = place_within c.args.span.now.pace c.args.span.now.round c.args.states.now c.args.board.now c.args.settled.now.items l.from
    l.states l.board l.settled.items l.agenda l.invariant c.in-Some.place c.in-Some.ensures.first in
    omega (arith, inside, c.in-Some.ensures.room, l.invariant.notes.few)

pub loop-place-init : goal.loop-place-init
loop-place-init c =
    going-starts c.args.span.now.pace c.args.span.now.round c.args.states.now c.args.board.now c.args.settled.now.items
    c.args.agenda.now c.requires.agenda c.requires.known
