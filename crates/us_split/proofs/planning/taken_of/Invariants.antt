use Rattle.std.proofs.Common.{◌≡◌, ℕ, ◌-◌, ◌<◌, length}
use Rattle.std.specs.Prelude.{slice_index}
use Rattle.us_split.proofs.planning.taken_of.Given as goal

-- what was taken of the flows so far
abbrev pub invariant-loop-flow : goal.invariant-loop-flow
invariant-loop-flow l = record {
  taken : (flow : ℕ) → flow < l.flow →
      slice_index l.taken.items flow ≡ slice_index l.reserves flow - slice_index l.left flow;
  one_each : length l.taken.items ≡ l.flow;
}
