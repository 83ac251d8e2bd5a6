use Rattle.std.proofs.Common.{◌++◌, ◌∙◌, ap, sym, arith}
use Rattle.us_holes.specs.Boards.{Assignment}
use Rattle.us_holes.proofs.FoundLemmas.{one_some, put_behind_all}
use Rattle.us_holes.proofs.placed.Assignments.put_some.Goals as goal

pub put-requires-clause-order : goal.put-requires-clause-order
put-requires-clause-order c =
    let one : Assignment = record { start = c.args.start; slots = c.args.slots; owner = c.args.owner } in
    let is = one_some c.args.start c.args.slots c.args.owner (omega (arith, c.if-slots-gt0.true)) in
    let order = rw is at c.requires.order in
    let last = put_behind_all 0 c.args.self.now 4096 one order in
    rw (c.new.ensures, last.1) order

pub returns-then-slots-gt0 : goal.returns-then-slots-gt0
returns-then-slots-gt0 c =
    let one : Assignment = record { start = c.args.start; slots = c.args.slots; owner = c.args.owner } in
    let is = one_some c.args.start c.args.slots c.args.owner (omega (arith, c.if-slots-gt0.true)) in
    let last = put_behind_all 0 c.args.self.now 4096 one (rw is at c.requires.order) in
    c.put.ensures ∙ rw c.new.ensures (last.1 ∙ ap (λ more. c.args.self.now ++ more) (sym is))
