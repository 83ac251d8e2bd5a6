-- A bucket that is refilled only when it is asked for: what it held at the start of some round, or holds since.
use Rattle.std.specs.Prelude.{◌≡◌, ℕ, zero, suc, ◌+◌, ◌-◌, ◌*◌, ◌≤◌}
use Rattle.us_bucket.specs.Levels.{Level, IsLevel, full, refilled, spent}

-- a level, and the round as of which it stands
pub record Kept : Type 0 where
  pub level : Level
  pub as_of : ℕ

-- the bucket of round 0
abbrev pub full_at_first : ℕ → ℕ → Kept
full_at_first rate burst = record { level = full rate burst; as_of = 0 }

-- a level so many rounds later, each of which refills it for so many ticks
unfoldable pub after_rounds : ℕ → ℕ → Level → Level
after_rounds ticks zero l = l
after_rounds ticks (suc rounds) l = refilled ticks (after_rounds ticks rounds l)

-- the level in a later round, if nothing is spent until then
abbrev pub level_in : ℕ → ℕ → Kept → Level
level_in ticks round kept = after_rounds ticks (round - kept.as_of) kept.level

-- as of a later round
abbrev pub brought_to : ℕ → ℕ → Kept → Kept
brought_to ticks round kept = record { level = level_in ticks round kept; as_of = round }

-- after so many bytes were granted in the round as of which it stands
abbrev pub less : ℕ → Kept → Kept
less bytes kept = record kept { level = spent bytes kept.level }

-- Laws.

-- two refills are one refill, by the ticks of both
abbrev pub RefillsAreOne : Type 0
RefillsAreOne = (first more : ℕ) (l : Level) → refilled more (refilled first l) ≡ refilled (first + more) l

-- so rounds without a spend are one refill, by the ticks of all
abbrev pub RoundsAreOneRefill : Type 0
RoundsAreOneRefill =
    (ticks rounds : ℕ) (l : Level) → IsLevel l → after_rounds ticks rounds l ≡ refilled (rounds * ticks) l

-- the next round refills the level of this one
abbrev pub NextRoundRefills : Type 0
NextRoundRefills =
    (ticks round : ℕ) (kept : Kept) → kept.as_of ≤ round →
    level_in ticks (round + 1) kept ≡ refilled ticks (level_in ticks round kept)

-- as of whatever round a bucket stands, the levels of later rounds are the same
abbrev pub BringingKeepsLevels : Type 0
BringingKeepsLevels =
    (ticks round later : ℕ) (kept : Kept) → kept.as_of ≤ round → round ≤ later →
    level_in ticks later (brought_to ticks round kept) ≡ level_in ticks later kept
