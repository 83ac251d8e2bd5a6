use Rattle.std.proofs.Common.{ℕ, ◌+◌, ◌^◌, ◌<◌}
use Rattle.std.specs.Prelude.{slice_index}
use Rattle.us_split_tests.proofs.tests.asking.has_room.Given as goal

-- there is room for those of the words so far
abbrev pub invariant-loop-word : goal.invariant-loop-word
invariant-loop-word l = (k : ℕ) → k < l.word → slice_index l.outstanding k + slice_index l.cuts k < 2 ^ 62
