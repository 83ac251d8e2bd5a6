use Rattle.std.proofs.Common.{◌≡◌, ◌∙◌, length, ap, arith}
use Rattle.us_holes.specs.Runs.{runs_of, runs_between}
use Rattle.us_holes.proofs.RunLemmas.{runs_are}
use Rattle.us_holes.proofs.WalkLemmas.{runs_few, runs_number}
use Rattle.us_holes.proofs.boards.Board.run_count.Goals as goal

pub returns-clause-value : goal.returns-clause-value
returns-clause-value c =
    let f = c.self.inside in
    let told = runs_are 0 f.assigned f.len c.self.invariant.0.order ∙ ap (λ board. runs_of board.cells) c.self.view_is in
    let runs : length (runs_between 0 f.assigned f.len) ≡ length (runs_of c.args.self.now.cells) = ap (λ all. length all) told in
    let holes = ap (λ all. length all) c.self.invariant.0.between in
    omega (arith, runs, holes, runs_number 0 f.assigned f.len)

pub returns-clause-few : goal.returns-clause-few
returns-clause-few c =
    let f = c.self.inside in
    let holes = ap (λ all. length all) c.self.invariant.0.between in
    let is = c.self.invariant.0.board in
    omega (arith, holes, runs_number 0 f.assigned f.len, runs_few 0 f.assigned f.len, is.standing)
