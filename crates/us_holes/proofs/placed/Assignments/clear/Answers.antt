use Rattle.std.proofs.Common.{refl, arith}
use Rattle.us_holes.specs.Lists.{put_all}
use Rattle.us_holes.proofs.FoundLemmas.{none_kept}
use Rattle.us_holes.proofs.placed.Assignments.clear.Goals as goal

pub invariant_of-self : goal.invariant_of-self
invariant_of-self c = (
  rw c.clear.ensures.items (none_kept c.self.inside.numbers.items c.self.invariant.0.minislots),
  omega (arith, c.self.invariant.1, c.clear.ensures.capacity),
)

pub returns : goal.returns
unfolding put_all
returns c = rw c.clear.ensures.items refl
