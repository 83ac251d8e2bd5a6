use Rattle.std.proofs.Common.{◌∙◌, arith, rules}
use Rattle.us_holes.proofs.HoleLemmas.{late_from}
use Rattle.us_holes.proofs.holes.earliest.Goals as goal

pub returns-then-start-to : goal.returns-then-start-to
returns-then-start-to c =
    let l = c.loop-i in
    let hole = c.index-holes-i.result in
    let none = late_from l.i c.args.from c.args.to c.args.slots c.args.holes.now hole c.requires c.loop-i-test.true (search rules)
    (omega (arith, c.if-start-to.true, c.start.ensures, c.max-start.ensures)) in
    none ∙ l.invariant
