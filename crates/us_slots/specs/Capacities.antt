-- Capacity: how many bytes a burst of some minislots carries (ours).
use Rattle.std.specs.Prelude.{◌≡◌, ℕ, zero, suc, ◌*◌, ◌/◌, ◌≤◌, ◌<◌, ◌⊎◌, Bool, nat_le, if◌then◌else◌}
use Rattle.us_slots.specs.Times.{Timing, symbols_per_minislot}
use Rattle.us_slots.specs.Bursts.{BurstProfile, coded_length, burst_cost}

-- the greatest byte count whose cost is at most `slots`, or 0 where there is none
pub record IsCapacity (cost : ℕ → ℕ) (slots most : ℕ) : Type 0 where
  -- it fits, or no byte count does and it is 0,
  pub fits : (cost most ≤ slots) ⊎ ((most ≡ 0) × ((bytes : ℕ) → slots < cost bytes))
  -- and no greater one fits
  pub greatest : (bytes : ℕ) → cost bytes ≤ slots → bytes ≤ most

-- a step of it: `most` bytes and fewer are sent as at most `room` bytes, and no more are
pub record Carries (p : BurstProfile) (room most : ℕ) : Type 0 where
  pub fits : (bytes : ℕ) → bytes ≤ most → coded_length p bytes ≤ room
  pub greatest : (bytes : ℕ) → coded_length p bytes ≤ room → bytes ≤ most

-- the greatest number of at most `limit` that passes, or 0 where none does
unfoldable pub greatest_up_to : (ℕ → Bool) → ℕ → ℕ
greatest_up_to passes zero = 0
greatest_up_to passes (suc limit) = if passes (suc limit) then suc limit else greatest_up_to passes limit

-- the capacity as a function, for definitions above this crate: it looks below what the bits of all symbols hold,
-- and no burst carries more
unfoldable pub capacity_of : Timing → BurstProfile → ℕ → ℕ
capacity_of t p slots =
    greatest_up_to (λ bytes. nat_le (burst_cost t p bytes) slots) (slots * symbols_per_minislot t * p.bits / 8)
