-- Levels of a token bucket. It counts in units of 1/1,280,000 byte: at R bit/s a tick of 6.25 microseconds adds R
-- units, since a second has 160,000 ticks and a byte 8 bits.
use Rattle.std.specs.Prelude.{ℕ, ◌+◌, ◌-◌, ◌*◌, ◌/◌, ◌≤◌, min, ◌==◌, if◌then◌else◌, Option, Some, None, IfSome, unwrap_or}

-- a flow's limit, and what its bucket holds
pub record Level : Type 0 where
  pub rate : ℕ  -- in bit/s: the maximum sustained rate, of which 0 is no limit, or the minimum one, of which 0 is none
  pub burst : ℕ  -- the maximum burst in bytes
  pub units : ℕ  -- what is in the bucket, of which 1,280,000 are a byte

abbrev pub units_per_byte : ℕ
units_per_byte = 1280000

-- the most that the bucket can hold, in units
abbrev pub cap : Level → ℕ
cap l = l.burst * units_per_byte

abbrev pub IsLevel : Level → Type 0
IsLevel l = l.units ≤ cap l

-- the bucket of round 0
abbrev pub full : ℕ → ℕ → Level
full rate burst = record { rate = rate; burst = burst; units = burst * units_per_byte }

-- at the start of a later round: so many ticks more, cut at the cap
unfoldable pub refilled : ℕ → Level → Level
refilled ticks l = record l { units = min (l.units + ticks * l.rate) (cap l) }

-- after so many bytes were granted; without a limit the bucket stays
unfoldable pub spent : ℕ → Level → Level
spent bytes l = record l { units = if l.rate == 0 then l.units else l.units - bytes * units_per_byte }

-- an amount, or none where there is no limit
abbrev pub limited : Level → ℕ → Option ℕ
limited l amount = if l.rate == 0 then None else Some amount

-- the whole bytes in the bucket
unfoldable pub bytes_in : Level → Option ℕ
bytes_in l = limited l (l.units / units_per_byte)

-- the whole bytes that the bucket of a minimum rate reserves: those in it, and nothing where there is no such rate
unfoldable pub reserve_in : Level → ℕ
reserve_in l = unwrap_or (bytes_in l) 0

-- and all of its units
unfoldable pub units_in : Level → Option ℕ
units_in l = limited l l.units

-- the bucket has so many bytes; where there is no limit, as many as you like
abbrev pub Has : Level → ℕ → Type 0
Has l bytes = IfSome (bytes_in l) (λ most. bytes ≤ most)
