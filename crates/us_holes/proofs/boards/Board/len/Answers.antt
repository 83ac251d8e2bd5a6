use Rattle.std.proofs.Common.{◌∙◌, length, ap}
use Rattle.us_holes.proofs.KeptLemmas.{kept_length}
use Rattle.us_holes.proofs.boards.Board.len.Goals as goal

pub returns-clause-value : goal.returns-clause-value
returns-clause-value c =
    let f = c.self.inside in
    kept_length f.assigned f.holes.items f.ranked.items f.len f.free c.self.invariant.0
    ∙ ap (λ board. length board.cells) c.self.view_is
