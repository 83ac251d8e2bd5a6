use Rattle.std.proofs.Common.{◌≡◌, ◌+◌, ◌≤◌, ◌++◌, length, vec_len, vec_capacity}
use Rattle.std.specs.Vec.Iter.{into_iter_items, into_iter_len}
use Rattle.us_round.proofs.PlacingLemmas.{firsts_of}
use Rattle.us_round.proofs.placing.unladen.Given as goal

abbrev pub invariant-loop-channel : goal.invariant-loop-channel
invariant-loop-channel l =
    let rest = into_iter_items l.rest in
    (into_iter_len l.rest ≡ length rest) ×
    (l.channels.items ++ firsts_of rest ≡ firsts_of l.fn.all.items) ×
    (vec_len l.channels + length rest ≤ vec_capacity l.channels)

abbrev pub decreases-loop-channel : goal.decreases-loop-channel
decreases-loop-channel l = into_iter_len l.rest
