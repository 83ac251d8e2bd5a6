use Rattle.std.proofs.Common.{refl}
use Rattle.us_holes.specs.Lists.{by_start}
use Rattle.us_holes.proofs.WalkLemmas.{all_begun, walk_begun}
use Rattle.us_holes.proofs.run_walks.RunWalk.along.Goals as goal

pub invariant_of-result : goal.invariant_of-result
invariant_of-result c =
    rw c.start_of.ensures
    (walk_begun c.args.placed.now c.args.numbers.now c.args.holes.now c.args.len c.requires.kept c.requires.most
    c.requires.order c.requires.between)

pub returns : goal.returns
returns c = rw (all_begun (by_start c.args.placed.now)) refl
