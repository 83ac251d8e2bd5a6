use Rattle.std.proofs.Common.{◌≡◌, drop, length}
use Rattle.us_round.specs.Cores.{left_at}
use Rattle.us_round.proofs.cores.reserving.leave.Given as goal

abbrev pub invariant-loop-place : goal.invariant-loop-place
invariant-loop-place l =
    (left_at l.turns l.left (drop l.place-index l.places) l.buckets.levels ≡ left_at l.turns l.left l.places l.fn.buckets.levels)
    × (length l.buckets.levels ≡ length l.fn.buckets.levels)
    × (l.buckets.ticks ≡ l.fn.buckets.ticks) × (l.buckets.round ≡ l.fn.buckets.round)
