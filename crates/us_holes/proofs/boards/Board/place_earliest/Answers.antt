use Rattle.std.proofs.Common.{◌∙◌, refl, sym}
use Rattle.us_holes.specs.Boards.{Assignment}
use Rattle.us_holes.proofs.PlacingLemmas.{fields_apart, placing, refusing}
use Rattle.us_holes.proofs.boards.Board.place_earliest.Goals as goal

pub earliest-requires : goal.earliest-requires
earliest-requires c = rw c.deref.ensures.value (fields_apart c.self.inside c.self.invariant.0)

pub new-one-requires : goal.new-one-requires
new-one-requires c =
    let one : Assignment = record { start = c.in-Some.start; slots = c.args.slots; owner = c.args.owner } in
    let is = placing c.self.inside c.args.self.now c.args.from c.args.to c.in-Some.place one c.self.invariant.0 c.self.view_is
    (sym c.is_full.ensures ∙ c.if-is_full.false) c.requires.some (rw c.deref.ensures.value at c.in-Some.ensures) in
    is.most

pub assign-requires-clause-holes : goal.assign-requires-clause-holes
assign-requires-clause-holes c =
    let one : Assignment = record { start = c.in-Some.start; slots = c.args.slots; owner = c.args.owner } in
    let is = placing c.self.inside c.args.self.now c.args.from c.args.to c.in-Some.place one c.self.invariant.0 c.self.view_is
    (sym c.is_full.ensures ∙ c.if-is_full.false) c.requires.some (rw c.deref.ensures.value at c.in-Some.ensures) in
    is.few

pub assign-requires-clause-order : goal.assign-requires-clause-order
assign-requires-clause-order c =
    let one : Assignment = record { start = c.in-Some.start; slots = c.args.slots; owner = c.args.owner } in
    let is = placing c.self.inside c.args.self.now c.args.from c.args.to c.in-Some.place one c.self.invariant.0 c.self.view_is
    (sym c.is_full.ensures ∙ c.if-is_full.false) c.requires.some (rw c.deref.ensures.value at c.in-Some.ensures) in
    rw c.new-one.ensures is.order

pub assign-requires-clause-has : goal.assign-requires-clause-has
assign-requires-clause-has c =
    let one : Assignment = record { start = c.in-Some.start; slots = c.args.slots; owner = c.args.owner } in
    let is = placing c.self.inside c.args.self.now c.args.from c.args.to c.in-Some.place one c.self.invariant.0 c.self.view_is
    (sym c.is_full.ensures ∙ c.if-is_full.false) c.requires.some (rw c.deref.ensures.value at c.in-Some.ensures) in
    rw c.new-one.ensures is.has

pub overflow_sub-self : goal.overflow_sub-self
overflow_sub-self c =
    let one : Assignment = record { start = c.in-Some.start; slots = c.args.slots; owner = c.args.owner } in
    let is = placing c.self.inside c.args.self.now c.args.from c.args.to c.in-Some.place one c.self.invariant.0 c.self.view_is
    (sym c.is_full.ensures ∙ c.if-is_full.false) c.requires.some (rw c.deref.ensures.value at c.in-Some.ensures) in
    is.free

pub invariant_of-self : goal.invariant_of-self
invariant_of-self c =
    let one : Assignment = record { start = c.in-Some.start; slots = c.args.slots; owner = c.args.owner } in
    let is = placing c.self.inside c.args.self.now c.args.from c.args.to c.in-Some.place one c.self.invariant.0 c.self.view_is
    (sym c.is_full.ensures ∙ c.if-is_full.false) c.requires.some (rw c.deref.ensures.value at c.in-Some.ensures) in
    (rw (c.assign.ensures.by_rank, c.assign.ensures.assigned, c.assign.ensures.holes, c.new-one.ensures) is.kept, c.assign.ensures.room)

pub returns-in-Some-clause-value : goal.returns-in-Some-clause-value
returns-in-Some-clause-value c =
    let one : Assignment = record { start = c.in-Some.start; slots = c.args.slots; owner = c.args.owner } in
    let is = placing c.self.inside c.args.self.now c.args.from c.args.to c.in-Some.place one c.self.invariant.0 c.self.view_is
    (sym c.is_full.ensures ∙ c.if-is_full.false) c.requires.some (rw c.deref.ensures.value at c.in-Some.ensures) in
    is.value

pub returns-in-Some-clause-says : goal.returns-in-Some-clause-says
returns-in-Some-clause-says c =
    let one : Assignment = record { start = c.in-Some.start; slots = c.args.slots; owner = c.args.owner } in
    let is = placing c.self.inside c.args.self.now c.args.from c.args.to c.in-Some.place one c.self.invariant.0 c.self.view_is
    (sym c.is_full.ensures ∙ c.if-is_full.false) c.requires.some (rw c.deref.ensures.value at c.in-Some.ensures) in
    (refl, is.says)

pub returns-in-Some-clause-board : goal.returns-in-Some-clause-board
returns-in-Some-clause-board c =
    let one : Assignment = record { start = c.in-Some.start; slots = c.args.slots; owner = c.args.owner } in
    let is = placing c.self.inside c.args.self.now c.args.from c.args.to c.in-Some.place one c.self.invariant.0 c.self.view_is
    (sym c.is_full.ensures ∙ c.if-is_full.false) c.requires.some (rw c.deref.ensures.value at c.in-Some.ensures) in
    rw (c.assign.ensures.assigned, c.new-one.ensures) is.board

pub returns-in-Some-clause-len : goal.returns-in-Some-clause-len
returns-in-Some-clause-len c =
    let one : Assignment = record { start = c.in-Some.start; slots = c.args.slots; owner = c.args.owner } in
    let is = placing c.self.inside c.args.self.now c.args.from c.args.to c.in-Some.place one c.self.invariant.0 c.self.view_is
    (sym c.is_full.ensures ∙ c.if-is_full.false) c.requires.some (rw c.deref.ensures.value at c.in-Some.ensures) in
    rw (c.assign.ensures.assigned, c.new-one.ensures) is.len_is

pub returns-in-None-clause-value : goal.returns-in-None-clause-value
returns-in-None-clause-value c =
    let is = refusing c.self.inside c.args.self.now c.args.from c.args.to c.args.slots c.self.invariant.0 c.self.view_is
    (sym c.is_full.ensures ∙ c.if-is_full.false) c.requires.some (rw c.deref.ensures.value at c.in-None.ensures) in
    is.value

pub returns-in-None-clause-says : goal.returns-in-None-clause-says
returns-in-None-clause-says c =
    let is = refusing c.self.inside c.args.self.now c.args.from c.args.to c.args.slots c.self.invariant.0 c.self.view_is
    (sym c.is_full.ensures ∙ c.if-is_full.false) c.requires.some (rw c.deref.ensures.value at c.in-None.ensures) in
    is.says
