use Rattle.us_replay.proofs.TakingLemmas.{AreTaken}
use Rattle.us_replay.proofs.collecting.take_asked.Given as goal

abbrev pub invariant-loop-ask : goal.invariant-loop-ask
invariant-loop-ask l = AreTaken l.fn.seat l.seat l.asks l.ask-index l.cut.items
