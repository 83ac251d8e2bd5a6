use Rattle.std.proofs.Common.{◌≡◌, ℕ, ◌<◌, ◌≤◌, Some, slice_get}
use Rattle.std.specs.Prelude.{slice_index}
use Rattle.us_flows.specs.declared.channels.Channel.{Channel}
use Rattle.us_flows.specs.Tables.{map_len}
use Rattle.us_split_tests.proofs.tests.base.is_idle.Given as goal

-- the minislots of the channels so far are few enough
abbrev pub invariant-loop-place : goal.invariant-loop-place
invariant-loop-place l = (k : ℕ) (c : Channel) → k < l.place → slice_get l.config.channels k ≡ Some c →
    slice_index l.idle k ≤ map_len l.config c
