use Rattle.std.proofs.Common.{◌≡◌}
use Rattle.us_round.specs.Hands.{filled_at}
use Rattle.us_round.proofs.PhaseLemmas.{done_to}
use Rattle.us_round.proofs.alone.AloneHands.fill.Given as goal

abbrev pub invariant-loop-place : goal.invariant-loop-place
invariant-loop-place g l = l.channels.items ≡ done_to (filled_at l.work) l.place l.fn.channels.items
