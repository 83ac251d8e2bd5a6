use Rattle.std.proofs.Common.{◌-◌, ◌++◌, ◌∙◌, ap, sym, arith}
use Rattle.us_holes.specs.Boards.{ends_held}
use Rattle.us_holes.specs.Lists.{hole_in, one_from}
use Rattle.us_holes.proofs.KeptLemmas.{kept_length}
use Rattle.us_holes.proofs.EndLemmas.{has_ends, ends_kept, ends_told, head_ordered, ends_ordered}
use Rattle.us_holes.proofs.boards.Board.reserve_ends.Goals as goal

pub overflow_sub-to : goal.overflow_sub-to
overflow_sub-to c =
    let ends = has_ends c.self.inside c.args.self.now c.args.head c.args.tail c.self.invariant.0 c.self.view_is c.requires.room in
    omega (arith, ends.few)

pub put_some-requires-2-clause-inside : goal.put_some-requires-2-clause-inside
put_some-requires-2-clause-inside c =
    let ends = has_ends c.self.inside c.args.self.now c.args.head c.args.tail c.self.invariant.0 c.self.view_is c.requires.room in
    omega (arith, ends.few, ends.most)

pub put_some-requires-clause-order : goal.put_some-requires-clause-order
put_some-requires-clause-order c =
    let ends = has_ends c.self.inside c.args.self.now c.args.head c.args.tail c.self.invariant.0 c.self.view_is c.requires.room in
    rw c.clear.ensures (head_ordered c.self.inside.len c.args.head c.args.first ends.some ends.most (omega (arith, ends.few)))

pub put_some-requires-2-clause-order : goal.put_some-requires-2-clause-order
put_some-requires-2-clause-order c =
    let ends = has_ends c.self.inside c.args.self.now c.args.head c.args.tail c.self.invariant.0 c.self.view_is c.requires.room in
    rw (c.put_some.ensures, c.clear.ensures)
    (ends_ordered c.self.inside.len c.args.head c.args.tail c.args.first c.args.last ends.some ends.most ends.few)

pub refill-requires-clause-order : goal.refill-requires-clause-order
refill-requires-clause-order c =
    let ends = has_ends c.self.inside c.args.self.now c.args.head c.args.tail c.self.invariant.0 c.self.view_is c.requires.room in
    omega (arith, ends.few)

pub refill-requires-clause-most : goal.refill-requires-clause-most
refill-requires-clause-most c =
    let ends = has_ends c.self.inside c.args.self.now c.args.head c.args.tail c.self.invariant.0 c.self.view_is c.requires.room in
    omega (arith, ends.most)

pub refill-requires-2-clause-order : goal.refill-requires-2-clause-order
refill-requires-2-clause-order c =
    let ends = has_ends c.self.inside c.args.self.now c.args.head c.args.tail c.self.invariant.0 c.self.view_is c.requires.room in
    omega (arith, ends.few)

pub refill-requires-2-clause-most : goal.refill-requires-2-clause-most
refill-requires-2-clause-most c =
    let ends = has_ends c.self.inside c.args.self.now c.args.head c.args.tail c.self.invariant.0 c.self.view_is c.requires.room in
    omega (arith, ends.most)

pub overflow_sub-self : goal.overflow_sub-self
overflow_sub-self c =
    let ends = has_ends c.self.inside c.args.self.now c.args.head c.args.tail c.self.invariant.0 c.self.view_is c.requires.room in
    omega (arith, ends.few)

pub invariant_of-self : goal.invariant_of-self
invariant_of-self c =
    let ends = has_ends c.self.inside c.args.self.now c.args.head c.args.tail c.self.invariant.0 c.self.view_is c.requires.room in
    let room = c.self.invariant.1 in (
      rw (c.refill.ensures.items, c.refill-2.ensures.items, c.put_some-2.ensures, c.put_some.ensures, c.clear.ensures)
          (ends_kept c.self.inside.len c.args.head c.args.tail c.args.first c.args.last ends.some ends.most ends.few),
      record {
        holes = omega (arith, room.holes, c.refill.ensures.capacity);
        ranked = omega (arith, room.ranked, c.refill-2.ensures.capacity);
      },
    )

pub returns-clause-board : goal.returns-clause-board
returns-clause-board c =
    let ends = has_ends c.self.inside c.args.self.now c.args.head c.args.tail c.self.invariant.0 c.self.view_is c.requires.room in
    rw (c.put_some-2.ensures, c.put_some.ensures, c.clear.ensures)
    (ends_told c.self.inside.len c.args.head c.args.tail c.args.first c.args.last ends.some ends.most ends.few
    ∙ ap (λ len. ends_held len c.args.head c.args.first c.args.tail c.args.last) ends.len)

pub returns-clause-len : goal.returns-clause-len
returns-clause-len c =
    let ends = has_ends c.self.inside c.args.self.now c.args.head c.args.tail c.self.invariant.0 c.self.view_is c.requires.room in
    let to = c.self.inside.len - c.args.tail in
    rw (c.put_some-2.ensures, c.put_some.ensures, c.clear.ensures)
    (sym (kept_length (one_from 0 c.args.head c.args.first ++ one_from to c.args.tail c.args.last) (hole_in c.args.head to)
    (hole_in c.args.head to) c.self.inside.len (to - c.args.head)
    (ends_kept c.self.inside.len c.args.head c.args.tail c.args.first c.args.last ends.some ends.most ends.few)) ∙ ends.len)
