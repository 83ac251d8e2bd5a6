use Rattle.std.proofs.Common.{◌≡◌, ◌+◌, ◌*◌, ◌≤◌, ◌++◌, length}
use Rattle.us_codec.specs.Faults.{elements_at}
use Rattle.us_codec.proofs.decoding.elements_of.Given as goal

-- what is read and what is left
abbrev pub invariant-loop-rest : goal.invariant-loop-rest
invariant-loop-rest l =
    (l.draft ++ elements_at l.rest ≡ elements_at l.bytes) ×
    (4 * length l.draft + length l.rest ≤ length l.bytes)

abbrev pub decreases-loop-rest : goal.decreases-loop-rest
decreases-loop-rest l = length l.rest
