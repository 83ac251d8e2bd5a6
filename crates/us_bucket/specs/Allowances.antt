-- What may be credited to a flow, by the bytes that were credited in each round; and what is reserved of it, by the bytes
-- that were planned first in each round. No bucket is mentioned here.
use Rattle.std.specs.Prelude.{◌≡◌, ◌⊎◌, ℕ, ◌+◌, ◌-◌, ◌*◌, ◌≤◌, ◌<◌, List, [], ◌∷◌, ◌++◌, length, Option, MatchOption}
use Rattle.us_bucket.specs.Levels.{units_per_byte}
use Rattle.us_bucket.specs.Spans.{credits_of, credited}
use Rattle.us_bucket.specs.declared.events.Event.{Event}
use Rattle.us_bucket.specs.declared.events.Event.TheVariants.{Credit}

-- a flow's limit, and the length of a round
pub record Limit : Type 0 where
  pub rate : ℕ  -- in bit/s: the maximum sustained rate, or of a reserve the minimum one
  pub burst : ℕ  -- the maximum burst in bytes
  pub round_ticks : ℕ  -- in ticks of 6.25 microseconds

-- the bound over every span of rounds: at most a burst, and the rate over the time from the first round of the span to
-- the last
abbrev pub KeepsBound : Limit → List ℕ → Type 0
KeepsBound limit credits =
    (i j : ℕ) → i ≤ j → j < length credits →
    credited credits i j * units_per_byte ≤ limit.burst * units_per_byte + (j - i) * (limit.round_ticks * limit.rate)

-- the credits of some events keep the bound, or there is no limit
abbrev pub AreLawful : Limit → List Event → Type 0
AreLawful limit events = 0 < limit.rate → KeepsBound limit (credits_of events)

-- the greatest number of bytes that, credited now, keeps the bound
pub record IsAllowance (limit : Limit) (events : List Event) (most : ℕ) : Type 0 where
  pub keeps : KeepsBound limit (credits_of (events ++ Credit most ∷ []))
  pub greatest : (bytes : ℕ) → KeepsBound limit (credits_of (events ++ Credit bytes ∷ [])) → bytes ≤ most

-- what a flow is limited to after some events: its allowance, and nothing where there is no limit
abbrev pub IsLimitedTo : Limit → List Event → Option ℕ → Type 0
IsLimitedTo limit events allowed =
    MatchOption allowed (limit.rate ≡ 0) (λ most. (0 < limit.rate) × IsAllowance limit events most)

-- what is reserved of a flow after some events, of which a credit is what was planned first, by a limit of its minimum rate:
-- the greatest number of bytes that, planned first now, keeps the bound, and nothing where there is no minimum rate
abbrev pub IsReserve : Limit → List Event → ℕ → Type 0
IsReserve limit events most =
    ((limit.rate ≡ 0) × (most ≡ 0)) ⊎ ((0 < limit.rate) × IsAllowance limit events most)
