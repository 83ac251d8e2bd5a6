use Rattle.std.proofs.Common.{◌∙◌, arith, rules}
use Rattle.us_holes.proofs.HoleLemmas.{passed_from}
use Rattle.us_holes.proofs.holes.passed_by_four.Goals as goal

pub loop-at-preserved : goal.loop-at-preserved
loop-at-preserved c =
    let l = c.loop-at in
    let hole = c.index-holes-at.result in
    let passed = passed_from l.at 3 c.args.from c.args.to c.args.slots c.args.holes.now hole c.requires
    (omega (arith, c.loop-at-test.true)) (search rules) (omega (arith, c.end.ensures.value, c.if-end-least.true)) in
    (omega (arith, c.loop-at-test.true), passed ∙ l.invariant.1)
