-- What bursts of any bytes cost: codewords that fill whole minislots cost as much beside any others.
use Rattle.std.proofs.Common.{◌^◌, ◌≡◌, ℕ, ◌+◌, ◌*◌, ◌/◌, ◌%◌, ◌<◌, ◌≤◌, arith, refl, ap, ◌∙◌, inl, inr}
use Rattle.std.specs.Int.{div_ceil}
use Rattle.std.proofs.Math.Nat.{div-le_self}
use Rattle.std.proofs.lemmas.Nat.{mod_below, div-add-mod', div-mul-add, mod-mul-add, mul-le, pow_pos, pow_below}
use Rattle.std.proofs.lemmas.Bool.{cases_lt, cases_Bool}
use Rattle.us_slots.specs.Times.{Timing, IsTiming, symbols_per_minislot}
use Rattle.us_slots.proofs.CodeLemmas.{coded_length-plain, coded_length-fixed, coded_length-shortened, coded_length-most}
use Rattle.us_slots.proofs.RoundingLemmas.{ceil-least}
use Rattle.us_slots.specs.Bursts.{BurstProfile, IsBurstProfile, codeword_of, coded_length, burst_cost}

-- whole times beside a rest: what a division gives, and what it leaves
beside : (n x d : ℕ) → 0 < d → ((n * d + x) / d ≡ n + x / d) × ((n * d + x) % d ≡ x % d)
beside n x d some =
    let parts : x / d * d + x % d ≡ x = div-add-mod' x d in
    let below : x % d < d = mod_below x d some in
    let same : n * d + x ≡ (n + x / d) * d + x % d = grind (arith, parts) in
    (ap (λ y. y / d) same ∙ div-mul-add (n + x / d) d (x % d) below, ap (λ y. y % d) same ∙ mod-mul-add (n + x / d) d (x % d) below)

-- so they are rounded up apart
ceil_beside : (n x d : ℕ) → 0 < d → div_ceil (n * d + x) d ≡ n + div_ceil x d
ceil_beside n x d some =
    let parts : ((n * d + x) / d ≡ n + x / d) × ((n * d + x) % d ≡ x % d) = beside n x d some in
    rw parts.0 (rw parts.1 (omega arith))

-- Full codewords are sent beside the rest.
coded_beside : (p : BurstProfile) (n bytes : ℕ) → IsBurstProfile p →
    coded_length p (n * p.fec_k + bytes) ≡ n * codeword_of p + coded_length p bytes
coded_beside p n bytes lawful =
    let some : 0 < p.fec_k = omega (arith, lawful.least_fec_k) in
    let all : ℕ = n * p.fec_k + bytes in
    elim (cases_lt 0 p.fec_t) [
      | inr plain ↦
          let none : p.fec_t ≡ 0 = omega arith in
          rw (coded_length-plain p all none) (rw (coded_length-plain p bytes none) (rw none (omega arith)))
      | inl code ↦ elim (cases_Bool p.shortened) [
        | inr fixed ↦ rw (coded_length-fixed p all code fixed) (rw (coded_length-fixed p bytes code fixed) (rw (ceil_beside n bytes p.fec_k some) (omega arith)))
        | inl short ↦
            let parts : (all / p.fec_k ≡ n + bytes / p.fec_k) × (all % p.fec_k ≡ bytes % p.fec_k) = beside n bytes p.fec_k some in
            rw (coded_length-shortened p all code short) (rw (coded_length-shortened p bytes code short) (rw parts.0 (rw parts.1 (omega arith))))
      ]
    ]

-- As many codewords as a minislot has bits fill whole minislots, and the rest is rounded beside these.
cost_beside : (t : Timing) (p : BurstProfile) (n bytes : ℕ) → IsBurstProfile p →
    burst_cost t p (n * (p.fec_k * p.bits * symbols_per_minislot t) + bytes) ≡ n * (8 * codeword_of p) + burst_cost t p bytes
unfolding burst_cost
cost_beside t p n bytes lawful =
    let bits : ℕ = p.bits in
    let symbols : ℕ = symbols_per_minislot t in
    let runs : ℕ = n * (bits * symbols) in
    let sent : ℕ = coded_length p bytes in
    let some_bits : 0 < bits = omega (arith, lawful.least_bits) in
    let some_symbols : 0 < symbols = pow_pos (t.minislot_log2 + t.rate_log2) in
    let there : n * (p.fec_k * bits * symbols) + bytes ≡ runs * p.fec_k + bytes = grind arith in
    let bits_there : 8 * (runs * codeword_of p + sent) ≡ n * symbols * (8 * codeword_of p) * bits + 8 * sent = grind arith in
    let symbols_there : p.preamble + p.guard + (n * symbols * (8 * codeword_of p) + div_ceil (8 * sent) bits) ≡ n * (8 * codeword_of p) * symbols + (p.preamble + p.guard + div_ceil (8 * sent) bits) = grind arith in
    rw there (rw (coded_beside p runs bytes lawful) (rw bits_there (rw (ceil_beside (n * symbols * (8 * codeword_of p)) (8 * sent) bits some_bits) (rw symbols_there (ceil_beside (n * (8 * codeword_of p)) (p.preamble + p.guard + div_ceil (8 * sent) bits) symbols some_symbols)))))

-- the minislots of a credit behind a header, as `large_cost` reckons them
pub cost_parts : (t : Timing) (p : BurstProfile) (credit header : ℕ) → IsBurstProfile p →
    let run : ℕ = p.fec_k * p.bits * symbols_per_minislot t in
    let left : ℕ = credit % run in
    burst_cost t p (credit + header) ≡ credit / run * (8 * codeword_of p)
    + div_ceil (p.preamble + p.guard + div_ceil (8 * (left / p.fec_k * codeword_of p + coded_length p (left % p.fec_k + header))) p.bits) (symbols_per_minislot t)
unfolding burst_cost
cost_parts t p credit header lawful =
    let run : ℕ = p.fec_k * p.bits * symbols_per_minislot t in
    let left : ℕ = credit % run in
    let parts : credit / run * run + left ≡ credit = div-add-mod' credit run in
    let rest : left / p.fec_k * p.fec_k + left % p.fec_k ≡ left = div-add-mod' left p.fec_k in
    let split : credit + header ≡ credit / run * run + (left / p.fec_k * p.fec_k + (left % p.fec_k + header)) = omega arith in
    rw split (rw (cost_beside t p (credit / run) (left / p.fec_k * p.fec_k + (left % p.fec_k + header)) lawful) (rw (coded_beside p (left / p.fec_k) (left % p.fec_k + header) lawful) refl))

-- a run of so many codewords has fewer bytes than 2^24
run_most : (t : Timing) (p : BurstProfile) → IsTiming t → IsBurstProfile p →
    p.fec_k * p.bits * symbols_per_minislot t < 2 ^ 24
run_most t p timing lawful =
    let symbols : symbols_per_minislot t < 2 ^ 13 = pow_below (t.minislot_log2 + t.rate_log2) 13 (omega (arith, timing.longest_minislot, timing.highest_rate)) in
    let bits : p.fec_k * p.bits ≤ 253 * 6 = mul-le p.fec_k p.bits 253 6 lawful.most_fec_k lawful.most_bits in
    let all : p.fec_k * p.bits * symbols_per_minislot t ≤ 253 * 6 * 2 ^ 13 = mul-le (p.fec_k * p.bits) (symbols_per_minislot t) (253 * 6) (2 ^ 13) bits (omega arith) in
    omega arith

-- what is left beside such runs takes fewer than 2^33 bytes in whole codewords,
pub whole_most : (t : Timing) (p : BurstProfile) (credit : ℕ) → IsTiming t → IsBurstProfile p →
    credit % (p.fec_k * p.bits * symbols_per_minislot t) / p.fec_k * codeword_of p < 2 ^ 33
whole_most t p credit timing lawful =
    let run : ℕ = p.fec_k * p.bits * symbols_per_minislot t in
    let left : ℕ = credit % run in
    let bits : 1 ≤ p.fec_k * p.bits = mul-le 1 1 p.fec_k p.bits (omega (arith, lawful.least_fec_k)) (omega (arith, lawful.least_bits)) in
    let some : 1 ≤ run = mul-le 1 1 (p.fec_k * p.bits) (symbols_per_minislot t) bits (pow_pos (t.minislot_log2 + t.rate_log2)) in
    let within : left ≤ 2 ^ 24 = omega (arith, run_most t p timing lawful, mod_below credit run some) in
    let whole : left / p.fec_k * codeword_of p ≤ 2 ^ 24 * 255 = mul-le (left / p.fec_k) (codeword_of p) (2 ^ 24) 255 (omega (arith, div-le_self left p.fec_k)) lawful.codeword in
    omega arith

-- and fewer than 2^11 behind these
pub rest_most : (p : BurstProfile) (left header : ℕ) → IsBurstProfile p → header < 2 ^ 8 →
    coded_length p (left % p.fec_k + header) < 2 ^ 11
rest_most p left header lawful small =
    let below : left % p.fec_k < p.fec_k = mod_below left p.fec_k (omega (arith, lawful.least_fec_k)) in
    omega (arith, lawful.most_fec_k, coded_length-most p (left % p.fec_k + header) lawful)

-- a division takes nothing more than was there
pub ceil_most : (x y : ℕ) → 0 < y → div_ceil x y ≤ x
ceil_most x y some =
    let held : x ≤ x * y = omega (arith, mul-le x 1 x y (omega arith) some) in
    ceil-least x y x some held

-- what the proof of `large_cost` rests on
pub ruleset cost_facts = (cost_parts, whole_most, rest_most, ceil_most, mod_below)
