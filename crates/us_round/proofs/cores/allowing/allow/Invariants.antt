use Rattle.std.proofs.Common.{◌≡◌, length, take}
use Rattle.us_round.specs.Cores.{AreAllowed}
use Rattle.us_round.proofs.cores.allowing.allow.Given as goal

abbrev pub invariant-loop-place : goal.invariant-loop-place
invariant-loop-place l =
    (l.buckets ≡ l.fn.buckets) × (length l.allowances ≡ length l.fn.allowances)
    × AreAllowed l.turns l.fn.buckets.levels l.allowances (take l.place-index l.places)
