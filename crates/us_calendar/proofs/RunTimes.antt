-- When a round ends, where MAPs have at most 4,096 ticks.
use Rattle.std.proofs.Common.{ℕ, ◌+◌, ◌*◌, ◌<◌, ◌≤◌, arith}
use Rattle.std.proofs.lemmas.Nat.{mul-le}

pub run-fits : (round ticks : ℕ) → round < 16384 → ticks ≤ 4096 → (round + 1) * ticks ≤ 67108864
run-fits round ticks early most = mul-le (round + 1) ticks 16384 4096 (omega (arith, early)) most

pub ruleset run_facts = (run-fits)
