use Rattle.std.proofs.Common.{refl, arith}
use Rattle.us_holes.specs.Lists.{put_all}
use Rattle.us_holes.proofs.FoundLemmas.{none_kept}
use Rattle.us_holes.proofs.placed.Assignments.new.Goals as goal

pub invariant_of-result : goal.invariant_of-result
invariant_of-result c = (
  rw c.in_ok-placed.ensures.items (none_kept c.in_ok-numbers.numbers.items (omega (arith, c.in_ok-numbers.ensures.len))),
  c.in_ok-placed.ensures.capacity,
)

pub returns : goal.returns
unfolding put_all
returns c = rw c.in_ok-placed.ensures.items refl
