-- The ends of a window: the ideal time in minislots, rounded up, and the latest time, rounded down.
use Rattle.std.proofs.Common.{◌≡◌, ℕ, ◌+◌, ◌*◌, ◌/◌, ◌<◌, ◌≤◌, arith}
use Rattle.std.specs.Int.{div_ceil}
use Rattle.std.proofs.lemmas.Nat.{pow_pos}
use Rattle.us_slots.specs.Times.{Timing, minislot_ticks, start_of}
use Rattle.us_slots.specs.Windows.{StartsWithin, AreEnds}
use Rattle.us_slots.proofs.RoundingLemmas.{ceil-fits, ceil-least, floor-fits, floor-most}

-- a minislot starts at its number times its length, in quarter microseconds
starts : (t : Timing) (i long : ℕ) → long ≡ 25 * minislot_ticks t → start_of t i ≡ i * long
starts t i long e = rw e (grind arith)

pub window_ends : (t : Timing) (ideal jitter long first : ℕ) → long ≡ 25 * minislot_ticks t →
    first ≡ div_ceil ideal long → first ≤ (ideal + jitter) / long →
    AreEnds (StartsWithin t ideal jitter) (first, (ideal + jitter) / long)
window_ends t ideal jitter long first e f h =
    let some : 0 < long = omega (arith, pow_pos t.minislot_log2) in
    let last : ℕ = (ideal + jitter) / long in
    let low : ideal ≤ first * long = ceil-fits ideal long first some (omega arith) in
    let high : last * long ≤ ideal + jitter = floor-fits (ideal + jitter) long last (omega arith) in
    let up : first * long ≤ ideal + jitter = floor-fits (ideal + jitter) long first (omega arith) in
    let down : ideal ≤ last * long = ceil-fits ideal long last some (omega arith) in
    record {
      first = (omega (arith, starts t first long e), omega (arith, starts t first long e));
      last = (omega (arith, starts t last long e), omega (arith, starts t last long e));
      least = λ i within. rw f (ceil-least ideal long i some (omega (arith, starts t i long e, within.0)));
      greatest = λ i within. floor-most (ideal + jitter) long i some (omega (arith, starts t i long e, within.1));
    }

pub window_empty : (t : Timing) (ideal jitter long : ℕ) → long ≡ 25 * minislot_ticks t →
    (ideal + jitter) / long < div_ceil ideal long → (i : ℕ) → ¬ StartsWithin t ideal jitter i
window_empty t ideal jitter long e h i within =
    let some : 0 < long = omega (arith, pow_pos t.minislot_log2) in
    let up : div_ceil ideal long ≤ i = ceil-least ideal long i some (omega (arith, starts t i long e, within.0)) in
    let down : i ≤ (ideal + jitter) / long = floor-most (ideal + jitter) long i some (omega (arith, starts t i long e, within.1)) in
    omega arith
