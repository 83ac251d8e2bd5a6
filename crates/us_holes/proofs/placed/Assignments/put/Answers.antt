use Rattle.std.proofs.Common.{◌≡◌, ◌∙◌, length, ap, arith}
use Rattle.us_holes.specs.Lists.{put}
use Rattle.us_holes.proofs.FoundLemmas.{by_start_length, by_start_put, put_within, kept_with}
use Rattle.us_holes.proofs.placed.Assignments.put.Goals as goal

pub overflow_cast-len : goal.overflow_cast-len
overflow_cast-len c =
    omega (arith, c.len.ensures, by_start_length c.self.inside.placed.items, ap (λ xs. length xs) c.self.view_is, c.requires.few)

pub index_mut-requires : goal.index_mut-requires
index_mut-requires c =
    let inside = put_within 0 c.args.self.now 4096 c.args.one c.requires.order in
    omega (arith, inside.1, c.self.invariant.0.minislots, c.start.ensures)

pub push_reserved-requires : goal.push_reserved-requires
push_reserved-requires c =
    omega (arith, by_start_length c.self.inside.placed.items, ap (λ xs. length xs) c.self.view_is, c.requires.few, c.self.invariant.1)

pub invariant_of-self : goal.invariant_of-self
invariant_of-self c =
    let f = c.self.inside in
    let number : c.len.result ≡ length f.placed.items = omega (arith, c.len.ensures) in (
      rw (c.push_reserved.ensures.items, c.start.ensures, number)
          (kept_with f.placed.items f.numbers.items c.args.one c.self.invariant.0 (rw c.self.view_is c.requires.order)),
      omega (arith, c.self.invariant.1, c.push_reserved.ensures.capacity),
    )

pub returns : goal.returns
returns c =
    rw c.push_reserved.ensures.items
    (by_start_put c.self.inside.placed.items c.args.one ∙ ap (λ assigned. put c.args.one assigned) c.self.view_is)
