-- Time on an upstream channel. The standard's: a tick is 6.25 microseconds, a minislot 2 ^ M ticks, and at
-- 160 * 2 ^ k ksym/s a tick holds 2 ^ k symbols. The ranges of M and k are ours.
use Rattle.std.specs.Prelude.{ℕ, ◌+◌, ◌*◌, ◌^◌, ◌≤◌}

-- a channel's minislot and symbol rate, by their logarithms M and k
pub record Timing : Type 0 where
  pub minislot_log2 : ℕ
  pub rate_log2 : ℕ

-- they are in range
pub record IsTiming (t : Timing) : Type 0 where
  pub longest_minislot : t.minislot_log2 ≤ 7
  pub highest_rate : t.rate_log2 ≤ 5

abbrev pub minislot_ticks : Timing → ℕ
minislot_ticks t = 2 ^ t.minislot_log2

abbrev pub symbols_per_minislot : Timing → ℕ
symbols_per_minislot t = 2 ^ (t.minislot_log2 + t.rate_log2)

-- the quarter microseconds of a tick
abbrev pub quarters_per_tick : ℕ
quarters_per_tick = 25

-- when a minislot starts, in quarter microseconds
abbrev pub start_of : Timing → ℕ → ℕ
start_of t minislot = quarters_per_tick * (minislot * minislot_ticks t)
