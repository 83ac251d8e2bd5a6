use Rattle.std.proofs.Common.{◌≡◌, ◌++◌, drop, flat_map}
use Rattle.std.specs.List.{AllByRecursion}
use Rattle.us_output.specs.Lines.{HasFields}
use Rattle.us_output.specs.Orders.{rows_at}
use Rattle.us_output.proofs.telling.tell_spots.Given as goal

-- what was told and what is left; and what all lines have, where those that are left have it
abbrev pub invariant-loop-spot : goal.invariant-loop-spot
invariant-loop-spot g l =
    (g.S.LineSink.taken l.sink ++ flat_map g.S.LineSink.made (rows_at l.round l.channel l.settled l.grants (drop l.spot-index l.spots)) ≡
    g.S.LineSink.taken l.fn.sink ++ flat_map g.S.LineSink.made (rows_at l.round l.channel l.settled l.grants l.spots))
    × (AllByRecursion HasFields (rows_at l.round l.channel l.settled l.grants (drop l.spot-index l.spots)) →
    AllByRecursion HasFields (rows_at l.round l.channel l.settled l.grants l.spots))
