use Rattle.std.proofs.Common.{◌≡◌, ◌≤◌, ◌++◌, drop, filter, vec_len, vec_capacity}
use Rattle.std.specs.Prelude.{slice_index}
use Rattle.us_split.specs.Asking.{is_pending}
use Rattle.us_split.proofs.asking.listing.note_pending.Given as goal

-- those of the rest are still to be noted
abbrev pub invariant-loop-place : goal.invariant-loop-place
invariant-loop-place l = record {
  items : l.pending.items ++ filter (λ place. is_pending l.outstanding l.left (slice_index l.numbers place)) (drop l.place-index l.asking)
      ≡ filter (λ place. is_pending l.outstanding l.left (slice_index l.numbers place)) l.asking;
  len : vec_len l.pending ≤ l.place-index;
  capacity : vec_capacity l.pending ≡ vec_capacity l.initial.pending;
}
