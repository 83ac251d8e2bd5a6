-- Levels of buckets: spends one after another are one of all, as refills are.
use Rattle.std.proofs.Common.{◌≡◌, ℕ, ◌+◌, ◌-◌, ◌*◌, ◌/◌, ◌<◌, ◌≤◌, ◌==◌, true, false, leb, refl, sym, inl, inr, arith}
use Rattle.std.specs.Prelude.{◌&&◌, nat_le}
use Rattle.std.proofs.lemmas.Bool.{cases_Bool, false≢true, leb-true, leb-false, le-leb, lt-leb}
use Rattle.us_bucket.specs.Levels.{Level, IsLevel, full, units_per_byte, refilled, spent, bytes_in, Has}
use Rattle.us_bucket.proofs.RoundLemmas.{same_level}
use Rattle.us_credit_rules.specs.Buckets.{has}

-- Refills.

pub refilled-is : (ticks : ℕ) (l : Level) → IsLevel (refilled ticks l)
unfolding refilled
refilled-is ticks l = omega arith

-- Spends.

pub spent-nothing : (l : Level) → spent 0 l ≡ l
unfolding spent
spent-nothing l = elim (cases_Bool (l.rate == 0)) [
  | inl none ↦ rw none refl
  | inr some ↦ rw some (same_level l (l.units - 0 * units_per_byte) l.units (omega arith))
]

pub spent-spent : (a b : ℕ) (l : Level) → spent b (spent a l) ≡ spent (a + b) l
unfolding spent
spent-spent a b l = elim (cases_Bool (l.rate == 0)) [
  | inl none ↦ rw none refl
  | inr some ↦ rw some
      (same_level l (l.units - a * units_per_byte - b * units_per_byte) (l.units - (a + b) * units_per_byte) (omega arith))
]

pub spent-is : (bytes : ℕ) (l : Level) → IsLevel l → IsLevel (spent bytes l)
unfolding spent
spent-is bytes l is = elim (cases_Bool (l.rate == 0)) [
  | inl none ↦ rw none is
  | inr some ↦ rw some (omega (arith, is))
]

-- Bytes that are there.

-- both are there where one is, and the other behind it
pub has-both : (a b : ℕ) (l : Level) → has l (a + b) ≡ (has l a && has (spent a l) b)
unfolding spent bytes_in
has-both a b l = elim (cases_Bool (l.rate == 0)) [
  | inl none ↦ rw none refl
  | inr some ↦ rw some (tests (l.units / units_per_byte) ((l.units - a * units_per_byte) / units_per_byte)
      (λ enough. omega (arith, enough)))
]
  where
    tests : (whole rest : ℕ) → (a ≤ whole → rest ≡ whole - a) →
        nat_le (a + b) whole ≡ (nat_le a whole && nat_le b rest)
    tests whole rest is = elim (cases_Bool (leb a whole)) [
      | inl enough ↦
          let left : rest ≡ whole - a = is (leb-true a whole enough) in
          rw enough (elim (cases_Bool (leb b rest)) [
            | inl both ↦ rw both (le-leb (a + b) whole (omega (arith, leb-true b rest both, leb-true a whole enough, left)))
            | inr short ↦ rw short (lt-leb (a + b) whole (omega (arith, leb-false b rest short, left)))
          ])
      | inr short ↦ rw short (lt-leb (a + b) whole (omega (arith, leb-false a whole short)))
    ]

-- nothing is always there
pub has-nothing : (l : Level) → has l 0 ≡ true
unfolding bytes_in
has-nothing l = elim (cases_Bool (l.rate == 0)) [
  | inl none ↦ rw none refl
  | inr some ↦ rw some (le-leb 0 (l.units / units_per_byte) (omega arith))
]

-- Full buckets.

pub full-is : (rate burst : ℕ) → IsLevel (full rate burst)
full-is rate burst = omega arith

-- its burst is there
pub full-has : (rate burst : ℕ) → Has (full rate burst) burst
unfolding bytes_in
full-has rate burst = elim (cases_Bool (rate == 0)) [
  | inl none ↦ rw none tt
  | inr some ↦ rw some (omega arith)
]

-- without it, it is as empty as one that hasn't the bytes that are taken
pub emptied : (l : Level) (bytes : ℕ) → has l bytes ≡ false → spent l.burst (full l.rate l.burst) ≡ spent bytes l
unfolding spent bytes_in
emptied l bytes short = elim (cases_Bool (l.rate == 0)) [
  | inl none ↦ absurd (false≢true (sym (rw none at short)))
  | inr some ↦
      let more : l.units / units_per_byte < bytes = leb-false bytes (l.units / units_per_byte) (rw some at short) in
      rw some (same_level l (l.burst * units_per_byte - l.burst * units_per_byte) (l.units - bytes * units_per_byte)
      (omega (arith, more)))
]
