-- The jitter window of an unsolicited grant, a poll or station maintenance: the minislots that it may start in.
-- The range of its start is the standard's, and the window as a set of minislots is ours.
use Rattle.std.specs.Prelude.{ℕ, ◌+◌, ◌≤◌}
use Rattle.us_slots.specs.Times.{Timing, start_of}

-- the minislot starts between the ideal time and the ideal time plus the jitter, both ends included
-- (all in quarter microseconds)
abbrev pub StartsWithin : Timing → ℕ → ℕ → ℕ → Type 0
StartsWithin t ideal jitter minislot =
    (ideal ≤ start_of t minislot) × (start_of t minislot ≤ ideal + jitter)

-- the first and the last minislot of a set
pub record AreEnds (Holds : ℕ → Type 0) (ends : ℕ × ℕ) : Type 0 where
  pub first : Holds ends.0
  pub last : Holds ends.1
  pub least : (minislot : ℕ) → Holds minislot → ends.0 ≤ minislot
  pub greatest : (minislot : ℕ) → Holds minislot → minislot ≤ ends.1
