use Rattle.std.proofs.Common.{◌≡◌, ◌++◌, drop}
use Rattle.std.specs.Prelude.{filter_map}
use Rattle.us_output.specs.Leftovers.{still_asking_at}
use Rattle.us_output.proofs.pendings.pending_sids.Given as goal

abbrev pub invariant-loop-turn : goal.invariant-loop-turn
invariant-loop-turn l =
    l.pendings.items ++ filter_map (still_asking_at l.config l.outstanding l.left) (drop l.turn-index l.turns) ≡
    filter_map (still_asking_at l.config l.outstanding l.left) l.turns
