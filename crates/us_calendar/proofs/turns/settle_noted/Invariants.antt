use Rattle.std.proofs.Common.{◌-◌, length}
use Rattle.us_calendar.proofs.AgendaLemmas.{Going}
use Rattle.us_calendar.proofs.turns.settle_noted.Given as goal

abbrev pub invariant-loop-place : goal.invariant-loop-place
invariant-loop-place l =
    Going l.span.pace l.span.round l.fn.states l.fn.board l.fn.settled.items l.from l.states l.board l.settled.items l.agenda

abbrev pub decreases-loop-place : goal.decreases-loop-place
decreases-loop-place l = length l.states - l.from
