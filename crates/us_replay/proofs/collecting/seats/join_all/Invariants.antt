use Rattle.std.proofs.Common.{◌≡◌, length}
use Rattle.std.specs.List.{AllByRecursion}
use Rattle.std.specs.Vec.Iter.{into_iter_items, into_iter_len}
use Rattle.us_replay.specs.Collecting.{joined_seats}
use Rattle.us_replay.proofs.collecting.seats.join_all.Given as goal

-- what is still to be joined makes up the whole
abbrev pub invariant-loop-other : goal.invariant-loop-other
invariant-loop-other l =
    let rest = into_iter_items l.rest in
    (into_iter_len l.rest ≡ length rest) × (l.seat.intake ≡ l.intake) ×
    AllByRecursion (λ other. other.intake ≡ l.intake) rest ×
    (joined_seats l.seat rest ≡ joined_seats l.fn.seat l.fn.others.items)

abbrev pub decreases-loop-other : goal.decreases-loop-other
decreases-loop-other l = into_iter_len l.rest
