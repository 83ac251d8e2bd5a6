use Rattle.std.proofs.Common.{ap, sym, ◌∙◌, Some, None, if◌then◌else◌}
use Rattle.us_steps.proofs.TallyLemmas.{ready_after, run_first, run_end}
use Rattle.us_steps.proofs.tallies.walk.Goals as goal

pub returns-then-not-step : goal.returns-then-not-step
returns-then-not-step c =
    sym c.loop-next.invariant.1
    ∙ run_first c.args.rows.now c.loop-next.tally c.args.steps.now c.loop-next.next-index _ None
    c.loop-next-test.true (rw c.if-not-step.true at c.step.ensures)

pub loop-next-preserved : goal.loop-next-preserved
loop-next-preserved c =
    let made = rw c.if-not-step.false at c.step.ensures in (
      ready_after c.args.rows.now c.loop-next.tally c.step.new.self _ c.loop-next.invariant.0 made,
      sym (run_first c.args.rows.now c.loop-next.tally c.args.steps.now c.loop-next.next-index _
          (Some c.step.new.self) c.loop-next-test.true made) ∙ c.loop-next.invariant.1,
    )

pub returns : goal.returns
returns c =
    sym c.loop-next.invariant.1
    ∙ run_end c.args.rows.now c.loop-next.tally c.args.steps.now c.loop-next.next-index c.loop-next-test.false
    ∙ ap (λ b. if b then Some c.loop-next.tally else None) (sym c.is_done.ensures)
