use Rattle.std.proofs.Common.{◌≡◌, ◌+◌, ◌≤◌, length, vec_len, vec_capacity}
use Rattle.std.specs.Vec.Iter.{into_iter_items, into_iter_len}
use Rattle.us_round.specs.Hands.{CanBuild, built_at}
use Rattle.us_round.specs.Placing.{CanPlace, placed}
use Rattle.us_round.proofs.PlacingLemmas.{AreMadeTo}
use Rattle.us_round.proofs.placing.laden.Given as goal

abbrev pub invariant-loop-channel : goal.invariant-loop-channel
invariant-loop-channel l =
    let rest = into_iter_items l.rest in
    (into_iter_len l.rest ≡ length rest) ×
    AreMadeTo (λ item. placed item.0 item.1.items) (λ item. CanPlace item.0 item.1.items) (built_at l.work)
    (CanBuild l.work) l.all.items rest l.fn.channels.items ×
    (vec_len l.all + length rest ≤ vec_capacity l.all)

abbrev pub decreases-loop-channel : goal.decreases-loop-channel
decreases-loop-channel l = into_iter_len l.rest
