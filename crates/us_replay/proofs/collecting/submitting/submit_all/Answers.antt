use Rattle.std.proofs.Common.{Err, ap, ◌∙◌}
use Rattle.us_replay.proofs.CollectingLemmas.{none-submitted, never-over, submitted-more}
use Rattle.us_replay.proofs.collecting.submitting.submit_all.Goals as goal

pub loop-ask-init : goal.loop-ask-init
loop-ask-init c = none-submitted c.args.intake.now c.args.seat c.args.asks.now c.requires

pub returns-in_err-submit-clause-fine : goal.returns-in_err-submit-clause-fine
returns-in_err-submit-clause-fine c =
    absurd (never-over c.args.intake.now c.args.seat c.loop-ask.seat c.args.asks.now c.loop-ask.ask-index _
    (c.in_err-submit.ensures.refused.0 (ap Err c.in_err-submit.ensures.faults)) c.requires c.loop-ask.invariant
    c.loop-ask-test.true)

pub loop-ask-preserved : goal.loop-ask-preserved
loop-ask-preserved c =
    c.in_ok-submit.ensures.ok ∙
    submitted-more c.args.intake.now c.args.seat c.loop-ask.seat c.args.asks.now c.loop-ask.ask-index _ c.requires
    c.loop-ask.invariant c.loop-ask-test.true
