use Rattle.std.proofs.Common.{◌≡◌, ◌+◌, ◌^◌, ◌<◌, length, zip, drop}
use Rattle.std.specs.List.{AllByRecursion}
use Rattle.us_round.proofs.tests.base.have_room.Given as goal

-- all have room if those that are left have
abbrev pub invariant-loop-place : goal.invariant-loop-place
invariant-loop-place l =
    (length l.outstanding ≡ length l.cut)
    × (AllByRecursion (λ pair. pair.0 + pair.1 < 2 ^ 62) (zip (drop l.place l.outstanding) (drop l.place l.cut)) →
    AllByRecursion (λ pair. pair.0 + pair.1 < 2 ^ 62) (zip l.outstanding l.cut))
