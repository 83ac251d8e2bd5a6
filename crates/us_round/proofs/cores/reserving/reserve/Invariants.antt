use Rattle.std.proofs.Common.{take}
use Rattle.us_round.specs.Cores.{AreReserved}
use Rattle.us_round.proofs.cores.reserving.reserve.Given as goal

abbrev pub invariant-loop-place : goal.invariant-loop-place
invariant-loop-place l = AreReserved l.turns l.buckets.levels l.reserves (take l.place-index l.places)
