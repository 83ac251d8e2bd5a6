use Rattle.std.proofs.Common.{◌≡◌, ◌++◌, take, drop}
use Rattle.us_split.specs.TurnRows.{seats_from}
use Rattle.us_split.proofs.turn_rows.find_seats.Given as goal

-- the other seats are still to come
abbrev pub invariant-loop-i : goal.invariant-loop-i
invariant-loop-i l =
    take l.i l.seats ++ seats_from l.channels l.i (drop l.i l.ids) l.sids ≡ seats_from l.channels 0 l.ids l.sids
