-- How a calendar is kept: of each entry its first occurrence that isn't settled, and in which round it is due. Nothing of
-- this is seen from outside.
use Rattle.std.specs.Prelude.{◌≡◌, ℕ, ◌+◌, ◌*◌, ◌%◌, ◌<◌, ◌≤◌, ◌^◌, ◌==◌, nat_lt, ◌||◌, Bool, true, false, List, length, slice_get, Option, Some, None, unwrap_or, if◌then◌else◌}
use Rattle.std.specs.List.{AllByRecursion, range_with_len}
use Rattle.us_slots.specs.Times.{minislot_ticks, IsTiming}
use Rattle.us_holes.specs.Boards.{Board}
use Rattle.us_calendar.specs.Entries.{Entry, IsEntry}
use Rattle.us_calendar.specs.Occurrences.{Pace, ideal, end_of}
use Rattle.us_calendar.specs.Settling.{EntryState, Settlement, SettledEntry, kind_at, if_detected, left_out, settle_entry}
use Rattle.us_calendar.specs.Calendars.{Calendar, IsCalendar}
use Rattle.us_calendar.specs.Agendas.{Agenda, IsAgenda}
use Rattle.us_calendar.specs.declared.interval_kinds.Kinds.{Kinds}
use Rattle.us_calendar.specs.declared.silences.Silence.{Silence}
use Rattle.us_calendar.specs.declared.occurrences.Occurrence.{Occurrence}

-- a MAP has a minislot at least, and at most 4,096 ticks
pub record IsPace (pace : Pace) : Type 0 where
  pub time : IsTiming pace.time
  pub len : 1 ≤ pace.len
  pub ticks : pace.len * minislot_ticks pace.time ≤ 4096

-- no occurrence of a run has this number or one above it
abbrev pub max_number : ℕ
max_number = 2 ^ 38

-- no ideal time of a run is later by more than an interval: 2^26 ticks, and 10 seconds
abbrev pub max_ideal : ℕ
max_ideal = 1717721600

-- the number of an occurrence
abbrev pub number_of : Entry → Occurrence → ℕ
number_of e occurrence = occurrence.i * e.grants + occurrence.k

-- it is one of an entry, with its ideal time
pub record IsTimed (e : Entry) (occurrence : Occurrence) : Type 0 where
  pub entry : IsEntry e
  pub grant : occurrence.k < e.grants
  pub time : occurrence.ideal ≡ e.start + occurrence.i * e.interval
  pub soon : occurrence.ideal ≤ max_ideal

-- it is settled so
abbrev pub settled_at : Entry → Bool → Occurrence → Option ℕ → Settlement
settled_at e active occurrence start = record { number = number_of e occurrence; active = active; start = start }

-- whether an interval that begins at a time is active, by what is kept
abbrev pub speaks_of : Kinds → ℕ → Bool
speaks_of kinds = kind_at kinds.at kinds.kept kinds.active

-- and what is kept behind the round of the interval that begins there
abbrev pub kept_at : Kinds → Option Bool → ℕ → ℕ → Option Bool
kept_at kinds waiting end time =
    if nat_lt time end then Some (speaks_of kinds time) else if time == kinds.at then waiting else None

-- of an entry whose activity isn't detected
abbrev pub always_active : Kinds
always_active = record { at = 0; kept = true; active = true }

-- the next occurrence may be any of its interval, where the flow was active when that began; else it is the first one
abbrev pub waits_active : Option Silence → Option Bool → Bool
waits_active silence waiting = if_detected silence (unwrap_or waiting false) true

-- what is settled of an entry are its first occurrences, and the next one comes
pub record IsEntryState (state : EntryState) : Type 0 where
  pub entry : IsEntry state.entry
  pub settled : state.settled ≡ range_with_len 0 (length state.settled)
  pub few : length state.settled ≤ max_number
  pub next : (waits_active state.entry.silence state.waiting || (length state.settled % state.entry.grants == 0)) ≡ true

-- the same by interval and place
pub record IsNext (e : Entry) (next : Occurrence) (waiting : Option Bool) : Type 0 where
  pub timed : IsTimed e next
  pub begins : (waits_active e.silence waiting || (next.k == 0)) ≡ true

-- the state of an entry of which so many occurrences are settled
abbrev pub state_from : Entry → Bool → Option Bool → ℕ → EntryState
state_from e active waiting next = record { entry = e; settled = range_with_len 0 next; active = active; waiting = waiting }

abbrev pub settle_from : Pace → ℕ → Entry → (ℕ → Bool) → ℕ → Board → SettledEntry
settle_from pace round e speaks next board = settle_entry pace round e speaks (range_with_len 0 next) board

-- the first number that isn't settled with an occurrence, where all before that are settled
abbrev pub behind : Entry → Bool → ℕ → ℕ
behind e active n = n + 1 + left_out e active

-- nothing of an entry is due in a round
pub record IsQuiet (pace : Pace) (round : ℕ) (state : EntryState) : Type 0 where
  pub settled : state.settled ≡ range_with_len 0 (length state.settled)
  pub entry : IsEntry state.entry
  pub later : end_of pace round ≤ ideal state.entry (length state.settled)

-- the entries whose activity is detected stand from one place on, before another one
pub record AreHeard (states : List EntryState) (from to : ℕ) : Type 0 where
  pub inside : to ≤ length states
  pub before : (p : ℕ) (state : EntryState) → slice_get states p ≡ Some state → p < from → state.entry.silence ≡ None
  pub behind : (p : ℕ) (state : EntryState) → slice_get states p ≡ Some state → to ≤ p → state.entry.silence ≡ None

-- what a calendar keeps, with what it notes
pub record IsKept (calendar : Calendar) (agenda : Agenda) (from to : ℕ) : Type 0 where
  pub known : IsCalendar calendar
  pub few : length calendar.states ≤ 1280
  pub states : AllByRecursion IsEntryState calendar.states
  pub heard : AreHeard calendar.states from to
  pub notes : IsAgenda calendar.pace calendar.next_round 0 calendar.states agenda
