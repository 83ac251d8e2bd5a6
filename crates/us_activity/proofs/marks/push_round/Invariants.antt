use Rattle.std.proofs.Common.{◌≡◌, ◌++◌, drop}
use Rattle.std.specs.Prelude.{filter_map}
use Rattle.us_activity.specs.Kept.{mark_of}
use Rattle.us_activity.proofs.marks.push_round.Given as goal

abbrev pub invariant-loop-ask : goal.invariant-loop-ask
invariant-loop-ask l =
    l.marks.items ++ filter_map (mark_of l.silent l.round) (drop l.ask-index l.asks)
    ≡ l.fn.marks.items ++ filter_map (mark_of l.silent l.round) l.asks
