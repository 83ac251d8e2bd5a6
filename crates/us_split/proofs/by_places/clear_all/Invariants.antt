use Rattle.std.proofs.Common.{◌≡◌, ◌*◌, ◌≤◌, ◌++◌, take, drop, zip}
use Rattle.std.specs.List.{AllByRecursion}
use Rattle.us_slots.specs.Times.{minislot_ticks}
use Rattle.us_split.specs.TurnRows.{cleared}
use Rattle.us_split.proofs.by_places.clear_all.Given as goal

-- the other channels are still to be cleared
abbrev pub invariant-loop-place : goal.invariant-loop-place
invariant-loop-place l = record {
  cleared_so_far : take l.place l.channels ++ cleared (drop l.place l.channels) (drop l.place l.idle) ≡
      cleared l.fn.channels l.idle;
  within : AllByRecursion (λ pair. pair.1 * minislot_ticks pair.0.channel.bursts.time ≤ 4096)
      (zip (drop l.place l.channels) (drop l.place l.idle));
}
