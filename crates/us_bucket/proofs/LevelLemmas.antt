-- Facts of levels: what a refill and a spend leave, and that whole bytes have their units.
use Rattle.std.proofs.Common.{◌≡◌, ℕ, ◌+◌, ◌*◌, ◌/◌, ◌<◌, ◌≤◌, Some, None, refl, ap, ◌⊎◌, inl, inr, arith}
use Rattle.std.specs.Prelude.{if◌then◌else◌}
use Rattle.std.proofs.lemmas.Bool.{cases_lt, eq-eqb, ne_eqb}
use Rattle.std.proofs.Math.Nat.{min-le_left, min-le_right, le-min}
use Rattle.us_bucket.specs.Levels.{Level, units_per_byte, cap, IsLevel, refilled, spent, bytes_in, reserve_in, Has}

-- Refills.

-- a refill changes neither rate nor burst
pub refilled-rate : (ticks : ℕ) (l : Level) → (refilled ticks l).rate ≡ l.rate
unfolding refilled
refilled-rate ticks l = refl

pub refilled-burst : (ticks : ℕ) (l : Level) → (refilled ticks l).burst ≡ l.burst
unfolding refilled
refilled-burst ticks l = refl

-- it stays at most the cap
pub refilled-capped : (ticks : ℕ) (l : Level) → (refilled ticks l).units ≤ cap l
unfolding refilled
refilled-capped ticks l = min-le_right (l.units + ticks * l.rate) (cap l)

-- it loses nothing
pub refilled-rises : (ticks : ℕ) (l : Level) → IsLevel l → l.units ≤ (refilled ticks l).units
unfolding refilled
refilled-rises ticks l within = le-min (omega arith) within

-- it adds at most the rate over the ticks
pub refilled-grows : (ticks : ℕ) (l : Level) → (refilled ticks l).units ≤ l.units + ticks * l.rate
unfolding refilled
refilled-grows ticks l = min-le_left (l.units + ticks * l.rate) (cap l)

-- it adds just that, or it fills the bucket
pub refilled-cases : (ticks : ℕ) (l : Level) →
    ((refilled ticks l).units ≡ l.units + ticks * l.rate) ⊎ ((refilled ticks l).units ≡ cap l)
unfolding refilled
refilled-cases ticks l = grind arith

-- Spends.

pub spent-rate : (bytes : ℕ) (l : Level) → (spent bytes l).rate ≡ l.rate
unfolding spent
spent-rate bytes l = refl

pub spent-burst : (bytes : ℕ) (l : Level) → (spent bytes l).burst ≡ l.burst
unfolding spent
spent-burst bytes l = refl

-- without a limit nothing leaves the bucket
pub spent-unlimited : (bytes : ℕ) (l : Level) → l.rate ≡ 0 → (spent bytes l).units ≡ l.units
unfolding spent
spent-unlimited bytes l none = rw (eq-eqb l.rate 0 none) refl

-- under one the bytes leave it, and the subtraction does not stop at 0 where the bucket has their units
pub spent-exact : (bytes : ℕ) (l : Level) → 0 < l.rate → bytes * units_per_byte ≤ l.units →
    (spent bytes l).units + bytes * units_per_byte ≡ l.units
unfolding spent
spent-exact bytes l some had = rw (ne_eqb l.rate 0 (omega arith)) (omega arith)

-- no spend adds units
pub spent-falls : (bytes : ℕ) (l : Level) → (spent bytes l).units ≤ l.units
unfolding spent
spent-falls bytes l = grind arith

-- Whole bytes.

-- so many whole bytes have their units
pub whole-units : (bytes units : ℕ) → bytes ≤ units / units_per_byte → bytes * units_per_byte ≤ units
whole-units bytes units whole = omega arith

-- and where the units are there, so are the bytes
pub units-whole : (bytes units : ℕ) → bytes * units_per_byte ≤ units → bytes ≤ units / units_per_byte
units-whole bytes units had = omega arith

-- under a limit the bucket says its whole bytes
pub bytes_in-limited : (l : Level) → 0 < l.rate → bytes_in l ≡ Some (l.units / units_per_byte)
unfolding bytes_in
bytes_in-limited l some =
    ap (λ b. if b then None else Some (l.units / units_per_byte)) (ne_eqb l.rate 0 (omega arith))

pub bytes_in-unlimited : (l : Level) → l.rate ≡ 0 → bytes_in l ≡ None
unfolding bytes_in
bytes_in-unlimited l none = ap (λ b. if b then None else Some (l.units / units_per_byte)) (eq-eqb l.rate 0 none)

-- what a spend asks for: at a limit the units of the bytes, without one nothing
pub has-units : (bytes : ℕ) (l : Level) → 0 < l.rate → Has l bytes →
    bytes * units_per_byte ≤ l.units
has-units bytes l some has =
    let whole : bytes ≤ l.units / units_per_byte = rw (bytes_in-limited l some) at has in
    whole-units bytes l.units whole

pub units-has : (bytes : ℕ) (l : Level) → 0 < l.rate → bytes * units_per_byte ≤ l.units →
    Has l bytes
units-has bytes l some had = rw (bytes_in-limited l some) (units-whole bytes l.units had)

pub unlimited-has : (bytes : ℕ) (l : Level) → l.rate ≡ 0 → Has l bytes
unlimited-has bytes l none = rw (bytes_in-unlimited l none) tt

-- what is reserved is there
pub has_reserved : (l : Level) (bytes : ℕ) → bytes ≤ reserve_in l → Has l bytes
unfolding reserve_in
has_reserved l bytes reserved = elim (cases_lt 0 l.rate) [
  | inl some ↦ let holds = bytes_in-limited l some in rw holds (rw holds at reserved)
  | inr none ↦ unlimited-has bytes l (omega arith)
]
