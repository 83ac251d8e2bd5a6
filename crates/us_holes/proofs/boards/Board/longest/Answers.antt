use Rattle.std.proofs.Common.{◌≡◌, ap}
use Rattle.us_holes.specs.Lists.{cells_of}
use Rattle.us_holes.proofs.KeptLemmas.{kept_told}
use Rattle.us_holes.proofs.boards.Board.longest.Goals as goal

pub returns-clause-longest : goal.returns-clause-longest
returns-clause-longest c =
    let f = c.self.inside in
    let told = kept_told f.assigned f.holes.items f.ranked.items f.len f.free c.first.result c.self.invariant.0
    (rw c.deref.ensures.value at c.first.ensures) in
    let cells : cells_of 0 f.assigned f.len ≡ c.args.self.now.cells = ap (λ board. board.cells) c.self.view_is in
    rw cells at told.longest

pub returns-clause-none : goal.returns-clause-none
returns-clause-none c =
    let f = c.self.inside in
    let told = kept_told f.assigned f.holes.items f.ranked.items f.len f.free c.first.result c.self.invariant.0
    (rw c.deref.ensures.value at c.first.ensures) in
    let cells : cells_of 0 f.assigned f.len ≡ c.args.self.now.cells = ap (λ board. board.cells) c.self.view_is in
    rw cells at told.none

pub returns-clause-value : goal.returns-clause-value
returns-clause-value c =
    let f = c.self.inside in
    let told = kept_told f.assigned f.holes.items f.ranked.items f.len f.free c.first.result c.self.invariant.0
    (rw c.deref.ensures.value at c.first.ensures) in
    let cells : cells_of 0 f.assigned f.len ≡ c.args.self.now.cells = ap (λ board. board.cells) c.self.view_is in
    rw cells at told.value
