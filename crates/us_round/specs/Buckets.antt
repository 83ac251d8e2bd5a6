-- Inside the crate, and of no use to a reader of the promise: the buckets of all flows, each refilled when it is asked for.
use Rattle.std.specs.Prelude.{ℕ, ◌*◌, ◌≤◌, ◌==◌, if◌then◌else◌, List, map}
use Rattle.std.specs.List.{AllByRecursion}
use Rattle.us_flows.specs.Tables.{Tables, max_run_ticks}
use Rattle.us_bucket.specs.Levels.{Level, full, refilled}
use Rattle.us_bucket.specs.RoundBuckets.{Kept, level_in}

-- the buckets in table order as they are in a round, where a round has so many ticks
pub record Buckets : Type 0 where
  pub levels : List Level
  pub ticks : ℕ
  pub round : ℕ

abbrev pub levels_in : ℕ → ℕ → List Kept → List Level
levels_in ticks round kept = map (level_in ticks round) kept

-- each stands as of that round or of an earlier one, and the round is one of a run
pub record AreKept (ticks round : ℕ) (kept : List Kept) : Type 0 where
  pub before : AllByRecursion (λ k. k.as_of ≤ round) kept
  pub time : round * ticks ≤ max_run_ticks

-- before round 0
abbrev pub at_first : ℕ → List Kept → Buckets
at_first ticks kept = record { levels = levels_in ticks 0 kept; ticks = ticks; round = 0 }

-- they are full,
abbrev pub full_buckets : Tables → Buckets
full_buckets t = record {
  levels = map (λ flow. full flow.rate flow.burst) t.flows;
  ticks = t.round_ticks;
  round = 0;
}

-- and so are those of minimum rates
abbrev pub full_reserves : Tables → Buckets
full_reserves t = record {
  levels = map (λ flow. full flow.min_rate flow.burst) t.flows;
  ticks = t.round_ticks;
  round = 0;
}

-- in every round but the first they grow by what a round's time brings
abbrev pub begun_buckets : ℕ → Buckets → Buckets
begun_buckets round b = record b {
  levels = if round == 0 then b.levels else map (refilled b.ticks) b.levels;
  round = round;
}
