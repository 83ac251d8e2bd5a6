use Rattle.std.proofs.Common.{length, ap, arith}
use Rattle.us_holes.proofs.FoundLemmas.{by_start_length}
use Rattle.us_holes.proofs.placed.Assignments.len.Goals as goal

pub returns : goal.returns
returns c =
    omega (arith, c.len.ensures, by_start_length c.self.inside.placed.items, ap (λ xs. length xs) c.self.view_is)
