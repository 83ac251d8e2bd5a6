use Rattle.std.proofs.Common.{length}
use Rattle.us_replay.proofs.TakingLemmas.{AreCleared}
use Rattle.us_replay.proofs.collecting.clear.Given as goal

abbrev pub invariant-loop-ask : goal.invariant-loop-ask
invariant-loop-ask l = AreCleared (length l.fn.cut.items) l.asks l.ask-index l.cut.items
