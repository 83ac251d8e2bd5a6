-- Small calendars, computed by the definitions alone.
use Rattle.std.specs.Prelude.{◌≡◌, ℕ, ◌+◌, List, [], ◌∷◌, true, Some, None, refl}
use Rattle.us_holes.specs.Boards.{Owner, Board, empty_board, assign, first_of}
use Rattle.us_calendar.specs.Entries.{Entry, in_order}
use Rattle.us_calendar.specs.Occurrences.{Pace, ideal, due, coming, window_end}
use Rattle.us_calendar.specs.Settling.{EntryState, Settlement, opening_state, settle_each, settle_entry, settle_state}
use Rattle.us_calendar.specs.Calendars.{Calendar, run_entries}
use Rattle.us_calendar.specs.Runs.{rounds_on, after_rounds, end_after, times, grants, misses}
use Rattle.us_calendar.specs.declared.kinds.Kind.{Kind}
use Rattle.us_calendar.specs.declared.kinds.Kind.TheVariants as kinds

-- MAPs of 4 minislots of a tick, so that minislots start at 0, 25, 50 and 75, and a round lasts 100
abbrev pace : Pace
pace = record { time = record { minislot_log2 = 0; rate_log2 = 0 }; len = 4 }

abbrev grant : Owner
grant = record { sid = 513; iuc = 11 }

-- so many grants of one minislot in each interval of 1,000
abbrev entry : ℕ → ℕ → ℕ → Entry
entry start jitter grants = record {
  kind = kinds.Unsolicited;
  id = 1;
  owner = grant;
  slots = 1;
  start = start;
  interval = 1000;
  jitter = jitter;
  grants = grants;
  silence = None;
}

abbrev state : ℕ → ℕ → ℕ → EntryState
state start jitter grants = opening_state (entry start jitter grants)

abbrev idle : Board
idle = empty_board 4

abbrev granted : ℕ → ℕ → Settlement
granted number start = record { number = number; active = true; start = Some start }

abbrev missed : ℕ → Settlement
missed number = record { number = number; active = true; start = None }

-- a window in which no minislot starts
no_start : (settle_state pace 0 (state 1 0 1) idle).settlements ≡ missed 0 ∷ []
unfolding settle_entry settle_each coming due first_of
no_start = refl

-- one that goes on behind the round: it waits, and the next round grants it the first minislot
waits : (settle_state pace 0 (state 90 20 1) idle).settlements ≡ []
unfolding settle_entry settle_each coming due first_of
waits = refl

granted_later : (settle_state pace 1 (state 90 20 1) idle).settlements ≡ granted 0 0 ∷ []
unfolding settle_entry settle_each coming due first_of
granted_later = refl

-- the window ends, and its minislots were all taken
taken_before : (settle_state pace 0 (state 0 30 1) (assign idle 0 2 grant)).settlements ≡ missed 0 ∷ []
unfolding settle_entry settle_each coming due first_of
taken_before = refl

-- a window that ends just where round 0 does isn't over in that round: it waits, and is missed in the next one
ends_with_round : (settle_state pace 0 (state 80 20 1) (assign idle 0 4 grant)).settlements ≡ []
unfolding settle_entry settle_each coming due first_of
ends_with_round = refl

missed_later : (settle_state pace 1 (state 80 20 1) (assign idle 0 4 grant)).settlements ≡ missed 0 ∷ []
unfolding settle_entry settle_each coming due first_of
missed_later = refl

-- over both rounds, which cut nothing, it is granted once, and never missed
abbrev calendar : Calendar
calendar = record { pace = pace; next_round = 0; states = state 90 20 1 ∷ [] }

once : times (grants (entry 90 20 1) 0) (rounds_on calendar ([] ∷ [] ∷ []) (idle ∷ idle ∷ [])) ≡ 1
unfolding run_entries settle_entry settle_each coming due first_of
once = refl

never : times (misses (entry 90 20 1) 0) (rounds_on calendar ([] ∷ [] ∷ []) (idle ∷ idle ∷ [])) ≡ 0
unfolding run_entries settle_entry settle_each coming due first_of
never = refl

-- Three grants of an interval of which two find a minislot before the round ends. What is settled then are the first two: the
-- third one waits, since its window ends behind the round, and the next interval begins behind that window.
abbrev rows_after : List (List ℕ) → List Board → List EntryState
rows_after cuts boards = (after_rounds (record { pace = pace; next_round = 0; states = state 50 75 3 ∷ [] }) cuts boards).states

two_of_three : rows_after ([] ∷ []) (idle ∷ []) ≡
    record { entry = entry 50 75 3; settled = 0 ∷ 1 ∷ []; active = true; waiting = None } ∷ []
unfolding run_entries settle_entry settle_each coming due first_of
two_of_three = refl

ends_behind : window_end (entry 50 75 3) 2 ≡ end_after pace 1 + 25
ends_behind = refl

begins_behind : ideal (entry 50 75 3) 3 ≡ window_end (entry 50 75 3) 2 + 925
begins_behind = refl

-- a round on, all of the interval is settled
all_three : rows_after ([] ∷ [] ∷ []) (idle ∷ idle ∷ []) ≡
    record { entry = entry 50 75 3; settled = 0 ∷ 1 ∷ 2 ∷ []; active = true; waiting = None } ∷ []
unfolding run_entries settle_entry settle_each coming due first_of
all_three = refl

-- three grants of an interval for which there are two minislots
some_missed : (settle_state pace 0 (state 0 75 3) (assign idle 0 2 grant)).settlements ≡
    granted 0 2 ∷ granted 1 3 ∷ missed 2 ∷ []
unfolding settle_entry settle_each coming due first_of
some_missed = refl

-- and none where as many assignments stand as there may be
none_more : (settle_state pace 0 (state 0 75 1) (record idle { standing = 100 })).settlements ≡ missed 0 ∷ []
unfolding settle_entry settle_each coming due first_of
none_more = refl

abbrev of_kind : Kind → ℕ → Entry
of_kind kind id = record {
  kind = kind;
  id = id;
  owner = grant;
  slots = 1;
  start = 0;
  interval = 1000;
  jitter = 0;
  grants = 1;
  silence = None;
}

-- by kind, and then by id
ordered : in_order (of_kind kinds.Station 1 ∷ of_kind kinds.RealTimePoll 9 ∷ of_kind kinds.Activity 2 ∷
    of_kind kinds.Unsolicited 7 ∷ of_kind kinds.Unsolicited 3 ∷ []) ≡
    of_kind kinds.Unsolicited 3 ∷ of_kind kinds.Unsolicited 7 ∷ of_kind kinds.Activity 2 ∷
    of_kind kinds.RealTimePoll 9 ∷ of_kind kinds.Station 1 ∷ []
ordered = refl
