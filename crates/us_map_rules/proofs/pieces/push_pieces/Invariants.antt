use Rattle.std.proofs.Common.{◌≡◌, ◌++◌, length}
use Rattle.us_map_rules.specs.Pieces.{pieces_from}
use Rattle.us_map_rules.proofs.pieces.push_pieces.Given as goal

-- what is put, and what is to come, is all
abbrev pub invariant-loop-piece : goal.invariant-loop-piece
invariant-loop-piece l = l.pieces.items ++ pieces_from l.element l.rest ≡ l.fn.pieces.items ++ pieces_from l.fn.first l.behind

abbrev pub decreases-loop-piece : goal.decreases-loop-piece
decreases-loop-piece l = length l.rest
