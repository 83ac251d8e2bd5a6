use Rattle.std.proofs.Common.{length, arith}
use Rattle.us_replay.proofs.TakingLemmas.{all-cleared}
use Rattle.us_replay.proofs.collecting.clear.Goals as goal

pub returns : goal.returns
returns c =
    all-cleared (length c.args.cut.now.items) c.args.asks.now c.loop-ask.ask-index c.loop-ask.cut.items c.loop-ask.invariant
    (omega (arith, c.loop-ask-test.false, c.loop-ask.auto.ask-index-end))
