use Rattle.std.proofs.Common.{◌+◌, ◌≤◌, vec_len, vec_capacity}
use Rattle.us_replay.proofs.ChunkLemmas.{AreDivided}
use Rattle.us_replay.proofs.collecting.seats.split_all.Given as goal

abbrev pub invariant-loop-left : goal.invariant-loop-left
invariant-loop-left l =
    AreDivided (λ item. item.0) (λ item. item.1.now) l.intake l.fn.seat l.asks l.parts l.seat l.chunks.items l.rest l.left ×
    (vec_len l.chunks + l.left ≤ vec_capacity l.chunks)

abbrev pub decreases-loop-left : goal.decreases-loop-left
decreases-loop-left l = l.left
