use Rattle.std.proofs.Common.{◌≡◌, drop}
use Rattle.us_map_rules.specs.Minislots.{right_up_to}
use Rattle.us_map_rules.proofs.minislots.right_end.Given as goal

abbrev pub invariant-loop-piece : goal.invariant-loop-piece
invariant-loop-piece l =
    right_up_to l.channel l.len l.regions l.end (drop l.piece-index l.pieces) ≡ right_up_to l.channel l.len l.regions 0 l.pieces
