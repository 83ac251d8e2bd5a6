-- When the occurrences of an entry are ideal, and where they may start.
use Rattle.std.specs.Prelude.{ℕ, ◌+◌, ◌*◌, ◌/◌, ◌%◌, nat_le, nat_lt, nat_eq, ◌==◌, Bool, ◌&&◌, ◌||◌, not, List, filter}
use Rattle.std.specs.List.{list_any, range_with_len}
use Rattle.us_slots.specs.Times.{Timing, start_of}
use Rattle.us_calendar.specs.Entries.{Entry}

-- what turns minislots of a channel into time: its minislot, and how many a MAP has
pub record Pace : Type 0 where
  pub time : Timing
  pub len : ℕ

-- Occurrences are numbered from 0 as they come: occurrence `n` is grant `n % grants` of interval `n / grants`, and is
-- ideal where its interval begins (the standard's, with all grants of an interval alike).
abbrev pub ideal : Entry → ℕ → ℕ
ideal e n = e.start + n / e.grants * e.interval

-- it may start in a minislot of the channel that begins at its ideal time or at most the jitter behind it
abbrev pub starts_within : Timing → Entry → ℕ → ℕ → Bool
starts_within time e n minislot =
    nat_le (ideal e n) (start_of time minislot) && nat_le (start_of time minislot) (ideal e n + e.jitter)

-- the last moment of its window
abbrev pub window_end : Entry → ℕ → ℕ
window_end e n = ideal e n + e.jitter

-- when a round ends
abbrev pub end_of : Pace → ℕ → ℕ
end_of pace round = start_of pace.time ((round + 1) * pace.len)

-- the window of an occurrence ends before the round does
abbrev pub is_over : Pace → ℕ → Entry → ℕ → Bool
is_over pace round e n = nat_lt (ideal e n + e.jitter) (end_of pace round)

-- the occurrences that are ideal before some time and aren't settled. An interval lasts a quarter microsecond at least,
-- so that all of them are among these numbers.
unfoldable pub due : Entry → ℕ → List ℕ → List ℕ
due e end settled =
    filter (λ n. nat_lt (ideal e n) end && not (list_any (nat_eq n) settled)) (range_with_len 0 (end * e.grants))

-- Whether the flow is active at a time, or silent, decides of what kind an interval is that begins then: all grants of it
-- come where the flow is active, and where it is silent the first alone, as a poll.
abbrev pub comes : Entry → (ℕ → Bool) → ℕ → Bool
comes e speaks n = speaks (ideal e n) || (n % e.grants == 0)

-- those that are due and come
unfoldable pub coming : Entry → (ℕ → Bool) → ℕ → List ℕ → List ℕ
coming e speaks end settled = filter (comes e speaks) (due e end settled)
