use Rattle.std.proofs.Common.{◌≡◌, ℕ, ◌<◌, ◌≤◌, vec_len, get_or}
use Rattle.us_slots.specs.Capacities.{capacity_of}
use Rattle.us_split.proofs.channel_plans.table_of.Given as goal

-- what the minislots so far carry
abbrev pub invariant-loop-slots : goal.invariant-loop-slots
invariant-loop-slots l = record {
  count : vec_len l.table ≡ l.slots;
  each : (k : ℕ) → k < l.slots → get_or l.table.items k 0 ≡ capacity_of l.bursts.time l.bursts.long k;
  bursts : (k : ℕ) → get_or l.table.items k 0 ≤ 98304;
}
