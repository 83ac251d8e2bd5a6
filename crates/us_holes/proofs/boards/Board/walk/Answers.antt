use Rattle.std.proofs.Common.{◌∙◌, ap}
use Rattle.us_holes.specs.Runs.{runs_of, runs_between}
use Rattle.us_holes.specs.Kept.{IsBoard}
use Rattle.us_holes.proofs.KeptLemmas.{kept_range}
use Rattle.us_holes.proofs.RunLemmas.{board_few, runs_are}
use Rattle.us_holes.proofs.boards.Board.walk.Goals as goal

pub along-requires-clause-most : goal.along-requires-clause-most
along-requires-clause-most c =
    let f = c.self.inside in
    (kept_range f.assigned f.holes.items f.ranked.items f.len f.free c.self.invariant.0).1

pub returns-clause-value : goal.returns-clause-value
returns-clause-value c =
    let f = c.self.inside in
    c.along.ensures ∙ ap (λ assigned. runs_between 0 assigned f.len) c.lent.ensures.value
    ∙ runs_are 0 f.assigned f.len c.self.invariant.0.order ∙ ap (λ board. runs_of board.cells) c.self.view_is

pub returns-clause-few : goal.returns-clause-few
returns-clause-few c =
    let is : IsBoard c.args.self.now = rw c.self.view_is at c.self.invariant.0.board in
    board_few c.args.self.now is
