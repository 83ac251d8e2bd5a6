-- Capacity: what the bits of the minislots' symbols carry, less the overhead, is the greatest byte count that fits.
use Rattle.std.proofs.Common.{◌≡◌, ℕ, zero, suc, ◌+◌, ◌-◌, ◌*◌, ◌/◌, ◌^◌, ◌<◌, ◌≤◌, nat_le, arith, ap, sym, inl, inr, lit<}
use Rattle.std.proofs.lemmas.Nat.{mul-le, pow-add}
use Rattle.std.proofs.Math.Nat.{pow-le-pow_right}
use Rattle.std.proofs.lemmas.Bool.{cases_lt, le-leb, lt-leb}
use Rattle.us_slots.specs.Times.{Timing, IsTiming, minislot_ticks, symbols_per_minislot}
use Rattle.us_slots.specs.Bursts.{BurstProfile, IsBurstProfile, coded_length, burst_cost}
use Rattle.us_slots.specs.Capacities.{IsCapacity, Carries, greatest_up_to, capacity_of}
use Rattle.us_slots.proofs.RoundingLemmas.{ceil-fits, ceil-least, floor-fits, floor-most}
use Rattle.us_slots.proofs.CodeLemmas.{coded_length-bounds}
use Rattle.us_slots.proofs.CostLemmas.{overhead_of, data_symbols_of, burst_cost-fits, burst_cost-least}

-- the bytes whose bits fit into the symbols of some minislots, less the overhead
abbrev pub room_of : Timing → BurstProfile → ℕ → ℕ
room_of t p slots = (slots * symbols_per_minislot t - overhead_of p) * p.bits / 8

-- Coded bytes within the room fit, where the overhead does,
burst_cost-within : (t : Timing) (p : BurstProfile) (slots bytes : ℕ) → IsBurstProfile p →
    overhead_of p ≤ slots * symbols_per_minislot t → coded_length p bytes ≤ room_of t p slots →
    burst_cost t p bytes ≤ slots
burst_cost-within t p slots bytes lawful overhead h =
    let symbols : ℕ = slots * symbols_per_minislot t - overhead_of p in
    let bits : coded_length p bytes * 8 ≤ symbols * p.bits = floor-fits (symbols * p.bits) 8 (coded_length p bytes) h in
    let fits : data_symbols_of p bytes ≤ symbols = ceil-least (8 * coded_length p bytes) p.bits symbols (omega (arith, lawful.least_bits)) (omega arith) in
    burst_cost-least t p bytes slots (omega arith)

-- and bytes that fit are coded within the room.
within-burst_cost : (t : Timing) (p : BurstProfile) (slots bytes : ℕ) → IsBurstProfile p →
    burst_cost t p bytes ≤ slots →
    (overhead_of p ≤ slots * symbols_per_minislot t) × (coded_length p bytes ≤ room_of t p slots)
within-burst_cost t p slots bytes lawful h =
    let symbols : ℕ = slots * symbols_per_minislot t - overhead_of p in
    let held : overhead_of p + data_symbols_of p bytes ≤ slots * symbols_per_minislot t = burst_cost-fits t p bytes slots h in
    let bits : 8 * coded_length p bytes ≤ symbols * p.bits = ceil-fits (8 * coded_length p bytes) p.bits symbols (omega (arith, lawful.least_bits)) (omega arith) in
    (omega arith, floor-most (symbols * p.bits) 8 (coded_length p bytes) (omega arith) (omega arith))

-- The greatest byte count that is sent within the room is the capacity.
pub is_capacity : (t : Timing) (p : BurstProfile) (slots most : ℕ) → IsBurstProfile p →
    Carries p (room_of t p slots) most → IsCapacity (burst_cost t p) slots most
is_capacity t p slots most lawful c = record {
  greatest = λ bytes h. c.greatest bytes (within-burst_cost t p slots bytes lawful h).1;
  fits = elim (cases_lt (slots * symbols_per_minislot t) (overhead_of p)) [
    | inr overhead ↦ inl (burst_cost-within t p slots most lawful overhead (c.fits most (omega arith)))
    | inl short ↦ inr (empty short, λ bytes. too_long short bytes)
  ];
}
  where
    empty : slots * symbols_per_minislot t < overhead_of p → most ≡ 0
    empty short =
        let none : slots * symbols_per_minislot t - overhead_of p ≡ 0 = omega arith in
        let no_room : room_of t p slots ≡ 0 = rw none (omega arith) in
        omega (arith, c.fits most (omega arith), coded_length-bounds p most lawful)

    too_long : slots * symbols_per_minislot t < overhead_of p → (bytes : ℕ) → slots < burst_cost t p bytes
    too_long short bytes =
        elim (cases_lt slots (burst_cost t p bytes)) [
          | inl longer ↦ longer
          | inr h ↦ absurd (omega (arith, (within-burst_cost t p slots bytes lawful h).0))
        ]

-- No more bytes are sent than there is room for.
pub sent_most : (p : BurstProfile) (room most : ℕ) → IsBurstProfile p → Carries p room most → most ≤ room
sent_most p room most lawful c = omega (arith, c.fits most (omega arith), (coded_length-bounds p most lawful).0)

-- The greatest number that passes is found from any limit that is no less.
greatest_up_to-is : (cost : ℕ → ℕ) (slots most limit : ℕ) → IsCapacity cost slots most → most ≤ limit →
    greatest_up_to (λ bytes. nat_le (cost bytes) slots) limit ≡ most
unfolding greatest_up_to
greatest_up_to-is cost slots most zero is below = omega arith
greatest_up_to-is cost slots most (suc limit) is below =
    elim (cases_lt slots (cost (suc limit))) [
      | inl longer ↦
          let other : most ≤ limit = elim is.fits [
            | inr none ↦ omega (arith, none.0)
            | inl held ↦ elim (cases_lt limit most) [
              | inr within ↦ within
              | inl over ↦
                  let same : most ≡ suc limit = omega arith in
                  absurd (omega (arith, ap cost same))
            ]
          ] in
          rw (lt-leb (cost (suc limit)) slots longer) (greatest_up_to-is cost slots most limit is other)
      | inr fits ↦ rw (le-leb (cost (suc limit)) slots fits) (omega (arith, is.greatest (suc limit) fits))
    ]

-- The capacity is the greatest number that passes below the bits of all symbols.
pub capacity_value : (t : Timing) (p : BurstProfile) (slots most : ℕ) → IsBurstProfile p →
    Carries p (room_of t p slots) most → most ≡ capacity_of t p slots
unfolding capacity_of
capacity_value t p slots most lawful c =
    let symbols : ℕ = slots * symbols_per_minislot t in
    let fewer : (symbols - overhead_of p) * p.bits ≤ symbols * p.bits = mul-le (symbols - overhead_of p) p.bits symbols p.bits (omega arith) (omega arith) in
    let within : most ≤ symbols * p.bits / 8 = omega (arith, sent_most p (room_of t p slots) most lawful c) in
    sym (greatest_up_to-is (burst_cost t p) slots most (symbols * p.bits / 8) (is_capacity t p slots most lawful c) within)

-- The minislots of a MAP have at most 131,072 symbols,
pub symbols_most : (t : Timing) (slots symbols : ℕ) → IsTiming t → slots * minislot_ticks t ≤ 4096 →
    symbols ≡ symbols_per_minislot t → slots * symbols ≤ 131072
symbols_most t slots symbols timing short e =
    let rate : 2 ^ t.rate_log2 ≤ 2 ^ 5 = pow-le-pow_right (lit< tt) timing.highest_rate in
    let product : slots * minislot_ticks t * 2 ^ t.rate_log2 ≤ 4096 * 2 ^ 5 = mul-le (slots * minislot_ticks t) (2 ^ t.rate_log2) 4096 (2 ^ 5) short rate in
    rw (e, pow-add 2 t.minislot_log2 t.rate_log2) (omega arith)

-- and so many symbols have room for at most 98,304 bytes.
pub room_most : (symbols bits : ℕ) → symbols ≤ 131072 → bits ≤ 6 →
    (symbols * bits < 2 ^ 32) × (symbols * bits / 8 ≤ 98304)
room_most symbols bits few h =
    let product : symbols * bits ≤ 131072 * 6 = mul-le symbols bits 131072 6 few h in
    (omega arith, omega arith)

-- Bytes whose own bits don't fit cost more than these minislots.
pub bits_past : (t : Timing) (p : BurstProfile) (slots bytes : ℕ) → IsBurstProfile p →
    (slots * symbols_per_minislot t - overhead_of p) * p.bits < 8 * bytes → slots < burst_cost t p bytes
bits_past t p slots bytes lawful past = elim (cases_lt slots (burst_cost t p bytes)) [
  | inl longer ↦ longer
  | inr fits ↦
      let bits : ℕ = (slots * symbols_per_minislot t - overhead_of p) * p.bits in
      let room : coded_length p bytes ≤ bits / 8 = (within-burst_cost t p slots bytes lawful fits).1 in
      absurd (omega (arith, room, (coded_length-bounds p bytes lawful).0))
]

-- The symbols of a short data grant are few.
pub short_symbols : (t : Timing) (slots symbols : ℕ) → IsTiming t → slots ≤ 255 → symbols ≡ symbols_per_minislot t →
    slots * symbols ≤ 1044480
short_symbols t slots symbols timing few e =
    let log2 : t.minislot_log2 + t.rate_log2 ≤ 12 = omega (arith, timing.longest_minislot, timing.highest_rate) in
    let each : symbols_per_minislot t ≤ 2 ^ 12 = pow-le-pow_right (lit< tt) log2 in
    let product : slots * symbols_per_minislot t ≤ 255 * 2 ^ 12 = mul-le slots (symbols_per_minislot t) 255 (2 ^ 12) few each in
    rw e (omega arith)

pub short_bits : (symbols bits : ℕ) → symbols ≤ 1044480 → bits ≤ 6 → symbols * bits < 2 ^ 32
short_bits symbols bits few h =
    let product : symbols * bits ≤ 1044480 * 6 = mul-le symbols bits 1044480 6 few h in
    omega arith

-- what the proof of `surely_past` rests on
pub ruleset past_facts = (bits_past, short_symbols, short_bits)

-- what the proof of `capacity` rests on
pub ruleset capacity_facts = (is_capacity, capacity_value, symbols_most, room_most, sent_most)
