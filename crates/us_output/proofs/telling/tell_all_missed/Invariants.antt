use Rattle.std.proofs.Common.{◌≡◌, ◌++◌, drop, flat_map}
use Rattle.std.specs.List.{AllByRecursion}
use Rattle.us_output.specs.Lines.{HasFields}
use Rattle.us_output.specs.Orders.{missed_of}
use Rattle.us_output.proofs.telling.tell_all_missed.Given as goal

-- what was told and what is left; and what all lines have, where those that are left have it
abbrev pub invariant-loop-one : goal.invariant-loop-one
invariant-loop-one g l =
    (g.S.LineSink.taken l.sink ++ flat_map g.S.LineSink.made (missed_of l.round l.channel (drop l.one-index l.settled)) ≡
    g.S.LineSink.taken l.fn.sink ++ flat_map g.S.LineSink.made (missed_of l.round l.channel l.settled))
    × (AllByRecursion HasFields (missed_of l.round l.channel (drop l.one-index l.settled)) →
    AllByRecursion HasFields (missed_of l.round l.channel l.settled))
