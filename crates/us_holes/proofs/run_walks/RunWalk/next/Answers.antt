use Rattle.std.proofs.Common.{◌∙◌, sym, arith}
use Rattle.us_holes.proofs.WalkLemmas.{held_there, held_step, hole_step, walk_done}
use Rattle.us_holes.proofs.run_walks.RunWalk.next.Goals as goal

pub beginning_at-one-requires-clause-inside : goal.beginning_at-one-requires-clause-inside
beginning_at-one-requires-clause-inside c =
    let w = c.self.inside in
    (held_there w.placed.now w.numbers.now w.holes.now w.len w.from w.next w.idle_from c.if-self.true c.self.invariant).0

pub beginning_at-one-requires-clause-there : goal.beginning_at-one-requires-clause-there
beginning_at-one-requires-clause-there c =
    let w = c.self.inside in
    (held_there w.placed.now w.numbers.now w.holes.now w.len w.from w.next w.idle_from c.if-self.true c.self.invariant).1

pub overflow_add-self : goal.overflow_add-self
overflow_add-self c =
    let w = c.self.inside in
    let held = held_step w.placed.now w.numbers.now w.holes.now w.len w.from w.next w.idle_from c.beginning_at-one.result
    c.if-self.true c.beginning_at-one.ensures c.self.invariant in
    omega (arith, c.slots.ensures, held.small)

pub invariant_of-self : goal.invariant_of-self
invariant_of-self c =
    let w = c.self.inside in
    let held = held_step w.placed.now w.numbers.now w.holes.now w.len w.from w.next w.idle_from c.beginning_at-one.result
    c.if-self.true c.beginning_at-one.ensures c.self.invariant in
    rw c.slots.ensures held.step.walk

pub returns-then-self-clause-some : goal.returns-then-self-clause-some
returns-then-self-clause-some c =
    let w = c.self.inside in
    let held = held_step w.placed.now w.numbers.now w.holes.now w.len w.from w.next w.idle_from c.beginning_at-one.result
    c.if-self.true c.beginning_at-one.ensures c.self.invariant in
    sym c.self.view_is ∙ rw (c.slots.ensures, c.of.ensures) held.step.runs

pub returns-then-self-clause-inside : goal.returns-then-self-clause-inside
returns-then-self-clause-inside c =
    let w = c.self.inside in
    let held = held_step w.placed.now w.numbers.now w.holes.now w.len w.from w.next w.idle_from c.beginning_at-one.result
    c.if-self.true c.beginning_at-one.ensures c.self.invariant in
    rw c.of.ensures held.step.inside

pub returns-then-self-2-clause-none : goal.returns-then-self-2-clause-none
returns-then-self-2-clause-none c =
    let w = c.self.inside in
    sym c.self.view_is
    ∙ walk_done w.placed.now w.numbers.now w.holes.now w.len w.from w.next w.idle_from c.if-self.false c.if-self-2.true c.self.invariant

pub returns-then-self-2-clause-ended : goal.returns-then-self-2-clause-ended
returns-then-self-2-clause-ended c = returns-then-self-2-clause-none c

pub invariant_of-self-2 : goal.invariant_of-self-2
invariant_of-self-2 c =
    let w = c.self.inside in
    let step = hole_step w.placed.now w.numbers.now w.holes.now w.len w.from w.next w.idle_from c.index-self-self.result
    c.if-self.false c.if-self-2.false c.index-self-self.is c.self.invariant in
    rw (c.end-self-inside.ensures.value, c.start_of-self-inside.ensures, ← c.index-self-self.is) step.walk

pub returns-clause-some : goal.returns-clause-some
returns-clause-some c =
    let w = c.self.inside in
    let step = hole_step w.placed.now w.numbers.now w.holes.now w.len w.from w.next w.idle_from c.index-self-self.result
    c.if-self.false c.if-self-2.false c.index-self-self.is c.self.invariant in
    sym c.self.view_is ∙ rw (c.end-self-inside.ensures.value, c.idle.ensures, ← c.index-self-self.is) step.runs

pub returns-clause-inside : goal.returns-clause-inside
returns-clause-inside c =
    let w = c.self.inside in
    let step = hole_step w.placed.now w.numbers.now w.holes.now w.len w.from w.next w.idle_from c.index-self-self.result
    c.if-self.false c.if-self-2.false c.index-self-self.is c.self.invariant in
    rw (c.idle.ensures, ← c.index-self-self.is) step.inside
