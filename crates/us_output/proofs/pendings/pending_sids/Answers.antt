use Rattle.us_output.proofs.PendingLemmas.{all_turns}
use Rattle.us_output.proofs.pendings.pending_sids.Goals as goal

pub returns : goal.returns
returns c =
    all_turns c.args.config.now c.args.outstanding.now c.args.left.now c.turns-turns.result.now c.loop-turn.pendings.items
    c.loop-turn.turn-index c.loop-turn-test.false c.loop-turn.invariant c.turns-turns.ensures.value
