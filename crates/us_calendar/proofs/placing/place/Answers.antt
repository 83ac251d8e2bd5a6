use Rattle.std.proofs.Common.{subst}
use Rattle.us_holes.specs.Placements.{IsPlacedAt, HasNoRoom}
use Rattle.us_calendar.specs.Kept.{number_of}
use Rattle.us_calendar.proofs.SpotLemmas.{spot-at, spot-none}
use Rattle.us_calendar.proofs.placing.place.Goals as goal

pub returns-in-At-clause-value : goal.returns-in-At-clause-value
returns-in-At-clause-value c =
    let ends = c.in_ok-from.ensures.some in
    let says = c.in-At.ensures.says in
    let placed = subst (λ slots. IsPlacedAt c.args.board.now c.in_ok-from.from c.in_ok-from.to slots c.in-At.start)
    c.slots_of-slots.ensures.value says.1 in
    spot-at c.args.span.now.pace c.args.span.now.round c.args.entry.now c.args.active
    (number_of c.args.entry.now c.args.next) c.in_ok-from.from c.in_ok-from.to c.in-At.start c.args.board.now ends.2
    ends.1 placed

pub returns-in-NoRoom-clause-value : goal.returns-in-NoRoom-clause-value
returns-in-NoRoom-clause-value c =
    let ends = c.in_ok-from.ensures.some in
    let room = subst (λ slots. HasNoRoom c.args.board.now c.in_ok-from.from c.in_ok-from.to slots)
    c.slots_of-slots.ensures.value c.in-NoRoom.ensures.says in
    spot-none c.args.span.now.pace c.args.span.now.round c.args.entry.now c.args.active
    (number_of c.args.entry.now c.args.next) c.in_ok-from.from c.in_ok-from.to c.args.board.now ends.2 room
