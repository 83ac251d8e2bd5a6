-- Burst cost: it fits in n minislots where its symbols do, it never falls as bytes rise, and any byte costs some.
use Rattle.std.proofs.Common.{ℕ, ◌+◌, ◌*◌, ◌<◌, ◌≤◌, arith, inl, inr}
use Rattle.std.specs.Int.{div_ceil}
use Rattle.std.proofs.lemmas.Nat.{mul-le, pow_pos}
use Rattle.std.proofs.lemmas.Bool.{cases_lt}
use Rattle.us_slots.specs.Times.{Timing, symbols_per_minislot}
use Rattle.us_slots.specs.Bursts.{BurstProfile, IsBurstProfile, coded_length, burst_cost}
use Rattle.us_slots.proofs.RoundingLemmas.{ceil-fits, ceil-least}
use Rattle.us_slots.proofs.CodeLemmas.{coded_length-mono, coded_length-bounds, coded_length-most}

-- the symbols of a burst before its bytes and after them
abbrev pub overhead_of : BurstProfile → ℕ
overhead_of p = p.preamble + p.guard

-- the symbols of a burst's coded bytes
abbrev pub data_symbols_of : BurstProfile → ℕ → ℕ
data_symbols_of p bytes = div_ceil (8 * coded_length p bytes) p.bits

-- A burst that costs at most n minislots has symbols for no more than n of them,
pub burst_cost-fits : (t : Timing) (p : BurstProfile) (bytes n : ℕ) → burst_cost t p bytes ≤ n →
    overhead_of p + data_symbols_of p bytes ≤ n * symbols_per_minislot t
unfolding burst_cost
burst_cost-fits t p bytes n h = ceil-fits (overhead_of p + data_symbols_of p bytes) (symbols_per_minislot t) n (pow_pos (t.minislot_log2 + t.rate_log2)) h

-- and the other way round.
pub burst_cost-least : (t : Timing) (p : BurstProfile) (bytes n : ℕ) →
    overhead_of p + data_symbols_of p bytes ≤ n * symbols_per_minislot t → burst_cost t p bytes ≤ n
unfolding burst_cost
burst_cost-least t p bytes n h = ceil-least (overhead_of p + data_symbols_of p bytes) (symbols_per_minislot t) n (pow_pos (t.minislot_log2 + t.rate_log2)) h

-- More bytes take more symbols.
data_symbols-mono : (p : BurstProfile) (a b : ℕ) → IsBurstProfile p → a ≤ b →
    data_symbols_of p a ≤ data_symbols_of p b
data_symbols-mono p a b lawful h =
    let some : 0 < p.bits = omega (arith, lawful.least_bits) in
    let held : 8 * coded_length p b ≤ data_symbols_of p b * p.bits = ceil-fits (8 * coded_length p b) p.bits (data_symbols_of p b) some (omega arith) in
    ceil-least (8 * coded_length p a) p.bits (data_symbols_of p b) some (omega (arith, coded_length-mono p a b lawful h))

-- Coded bytes take no more symbols than they have bits.
pub data_symbols-most : (p : BurstProfile) (bytes : ℕ) → IsBurstProfile p →
    div_ceil (8 * coded_length p bytes) p.bits ≤ 24 * bytes + 2040
data_symbols-most p bytes lawful =
    let bits : ℕ = 8 * coded_length p bytes in
    let some : 0 < p.bits = omega (arith, lawful.least_bits) in
    let product : bits * 1 ≤ bits * p.bits = mul-le bits 1 bits p.bits (omega arith) some in
    let least : div_ceil bits p.bits ≤ bits = ceil-least bits p.bits bits some (omega arith) in
    omega (arith, coded_length-bounds p bytes lawful)

-- Cost never falls as bytes rise.
pub burst_cost-mono : (t : Timing) (p : BurstProfile) (a b : ℕ) → IsBurstProfile p → a ≤ b →
    burst_cost t p a ≤ burst_cost t p b
burst_cost-mono t p a b lawful h =
    let held : overhead_of p + data_symbols_of p b ≤ burst_cost t p b * symbols_per_minislot t = burst_cost-fits t p b (burst_cost t p b) (omega arith) in
    burst_cost-least t p a (burst_cost t p b) (omega (arith, data_symbols-mono p a b lawful h))

-- A byte costs at least one minislot.
pub burst_cost-some : (t : Timing) (p : BurstProfile) (bytes : ℕ) → IsBurstProfile p → 0 < bytes →
    0 < burst_cost t p bytes
burst_cost-some t p bytes lawful h =
    elim (cases_lt 0 (burst_cost t p bytes)) [
      | inl some ↦ some
      | inr none ↦
          let held : overhead_of p + data_symbols_of p bytes ≤ 0 * symbols_per_minislot t = burst_cost-fits t p bytes 0 none in
          let coded : 8 * coded_length p bytes ≤ 0 * p.bits = ceil-fits (8 * coded_length p bytes) p.bits 0 (omega (arith, lawful.least_bits)) (omega arith) in
          absurd (omega (arith, coded_length-bounds p bytes lawful))
    ]

-- what the proof of `cost` rests on
pub ruleset cost_facts = (coded_length-most, data_symbols-most, burst_cost-some, burst_cost-mono)
