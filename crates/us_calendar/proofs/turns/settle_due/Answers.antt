use Rattle.us_calendar.proofs.AgendaLemmas.{going-starts, ends_states, ends_board, ends_told, ends_agenda}
use Rattle.us_calendar.proofs.turns.settle_due.Goals as goal

pub returns-then-is_idle-clause-states : goal.returns-then-is_idle-clause-states
returns-then-is_idle-clause-states c =
    ends_states c.args.pace c.args.round c.args.states.now c.args.board.now c.args.settled.now.items 0 c.args.states.now
    c.args.board.now c.args.settled.now.items c.args.agenda.now
    (going-starts c.args.pace c.args.round c.args.states.now c.args.board.now c.args.settled.now.items c.args.agenda.now
    c.requires.agenda c.requires.known) c.if-is_idle.ensures

pub returns-then-is_idle-clause-board : goal.returns-then-is_idle-clause-board
returns-then-is_idle-clause-board c =
    ends_board c.args.pace c.args.round c.args.states.now c.args.board.now c.args.settled.now.items 0 c.args.states.now
    c.args.board.now c.args.settled.now.items c.args.agenda.now
    (going-starts c.args.pace c.args.round c.args.states.now c.args.board.now c.args.settled.now.items c.args.agenda.now
    c.requires.agenda c.requires.known) c.if-is_idle.ensures

pub returns-then-is_idle-clause-settled : goal.returns-then-is_idle-clause-settled
returns-then-is_idle-clause-settled c =
    ends_told c.args.pace c.args.round c.args.states.now c.args.board.now c.args.settled.now.items 0 c.args.states.now
    c.args.board.now c.args.settled.now.items c.args.agenda.now
    (going-starts c.args.pace c.args.round c.args.states.now c.args.board.now c.args.settled.now.items c.args.agenda.now
    c.requires.agenda c.requires.known) c.if-is_idle.ensures

pub returns-then-is_idle-clause-agenda : goal.returns-then-is_idle-clause-agenda
returns-then-is_idle-clause-agenda c =
    ends_agenda c.args.pace c.args.round c.args.states.now c.args.board.now c.args.settled.now.items 0 c.args.states.now
    c.args.board.now c.args.settled.now.items c.args.agenda.now
    (going-starts c.args.pace c.args.round c.args.states.now c.args.board.now c.args.settled.now.items c.args.agenda.now
    c.requires.agenda c.requires.known) c.if-is_idle.ensures c.end_round.new.self c.end_round.ensures.round
    c.end_round.ensures.room c.end_round.ensures.noted
