use Rattle.std.proofs.Common.{arith, subst, sym}
use Rattle.us_map_rules.specs.Failures.{comes_in}
use Rattle.us_map_rules.proofs.CountLemmas.{IsWalked, walk_begun, walk_missing, walk_more, walk_twice}
use Rattle.us_map_rules.proofs.closings.first_wrong.Goals as goal
use Rattle.us_map_rules.proofs.closings.first_wrong.Goals.{then-number-at-2+else-number-due, else-number-at-2}

pub loop-number-init : goal.loop-number-init
loop-number-init c = record {
  walked = subst (IsWalked (comes_in c.args.run.now c.args.of.now) c.args.next c.args.others.now 0) (sym c.from-at.ensures)
      (walk_begun c.args.others.now c.requires.rising (comes_in c.args.run.now c.args.of.now) c.args.next);
  few = omega (arith, c.from-at.ensures);
}

pub returns-then-number-at-clause-first : goal.returns-then-number-at-clause-first
returns-then-number-at-clause-first c = λ come.
    let i = c.loop-number.number-index in
    rw c.from-number.ensures (
    walk_twice c.args.others.now c.requires.rising (comes_in c.args.run.now c.args.of.now) c.args.next i c.loop-number.at c.loop-number.invariant.walked
    c.loop-number-test.true (omega arith) (come i 0 c.loop-number-test.true))

pub returns-then-number-due-clause-first : goal.returns-then-number-due-clause-first
returns-then-number-due-clause-first c = λ come.
    walk_missing c.args.others.now c.requires.rising (comes_in c.args.run.now c.args.of.now) c.args.next c.loop-number.number-index c.loop-number.at
    c.loop-number.invariant.walked c.coming-due.result c.coming-due.ensures.due (λ _. omega arith)

pub loop-number-preserved : goal.loop-number-preserved
loop-number-preserved c = record {
  walked = rw c.from-number.ensures (walk_more c.args.others.now c.requires.rising (comes_in c.args.run.now c.args.of.now) c.args.next c.loop-number.number-index
      c.loop-number.at c.loop-number.invariant.walked c.loop-number-test.true (omega arith)
      (elim c.if-number-at-2.branch [
        | then-number-at-2+else-number-due w ↦ λ m from low. w.coming-due.ensures.due.none m from (omega arith)
        | else-number-at-2 w ↦ λ m from low. absurd (omega arith)
      ]));
  few = omega (arith, c.type_inv.others c.loop-number.number-index);
}

pub returns-clause-first : goal.returns-clause-first
returns-clause-first c = λ come.
    walk_missing c.args.others.now c.requires.rising (comes_in c.args.run.now c.args.of.now) c.args.next c.loop-number.number-index c.loop-number.at
    c.loop-number.invariant.walked c.coming.result c.coming.ensures.due (λ inside. absurd (omega arith))
