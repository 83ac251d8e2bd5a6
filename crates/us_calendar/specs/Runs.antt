-- What becomes of an occurrence over the rounds of a run.
use Rattle.std.specs.Prelude.{◌≡◌, ℕ, ◌+◌, ◌*◌, ◌/◌, ◌%◌, ◌<◌, ◌≤◌, ◌==◌, nat_lt, ◌&&◌, ◌||◌, Bool, true, false, List, [], ◌∷◌, length, flat_map, filter, take, sum_by, count_by, slice_get, Some, None}
use Rattle.std.specs.List.{AllByRecursion, Contains}
use Rattle.us_slots.specs.Times.{start_of}
use Rattle.us_holes.specs.Boards.{Board, Assignment, fits, assign_all}
use Rattle.us_calendar.specs.Entries.{Entry, slots_of, owner_of, rank_of}
use Rattle.us_calendar.specs.Occurrences.{Pace, ideal, starts_within, window_end, comes}
use Rattle.us_calendar.specs.Settling.{spot}
use Rattle.us_calendar.specs.Calendars.{Calendar, ran, after}
use Rattle.us_calendar.specs.declared.settled.Settled.{Settled}
use Rattle.us_calendar.specs.declared.settled.Settled.TheVariants as told

-- a round: the board that the calendar found, and what it settled
pub record Round : Type 0 where
  pub board : Board
  pub settled : List Settled

-- the rounds of a calendar, one with each of these cuts on each of these boards,
abbrev pub rounds_on : Calendar → List (List ℕ) → List Board → List Round
rounds_on calendar [] boards = []
rounds_on calendar (cut ∷ cuts) [] = []
rounds_on calendar (cut ∷ cuts) (board ∷ boards) =
    record { board = board; settled = (ran calendar cut board).settled }
    ∷ rounds_on (after calendar cut board) cuts boards

-- and the calendar behind them
abbrev pub after_rounds : Calendar → List (List ℕ) → List Board → Calendar
after_rounds calendar [] boards = calendar
after_rounds calendar (cut ∷ cuts) [] = calendar
after_rounds calendar (cut ∷ cuts) (board ∷ boards) = after_rounds (after calendar cut board) cuts boards

-- when so many rounds have ended
abbrev pub end_after : Pace → ℕ → ℕ
end_after pace rounds = start_of pace.time (rounds * pace.len)

-- kind and id are those of an entry, and interval and place those of its occurrence `n`
abbrev pub is_name : Entry → ℕ → ℕ → ℕ → ℕ → ℕ → Bool
is_name e n rank id i k = (rank == rank_of e.kind) && (id == e.id) && (i == n / e.grants) && (k == n % e.grants)

-- it grants occurrence `n` of an entry,
abbrev pub grants : Entry → ℕ → Settled → Bool
grants e n (told.Granted kind id i k start slots owner) = is_name e n (rank_of kind) id i k
grants e n (told.Missed kind id i k) = false

-- or misses it
abbrev pub misses : Entry → ℕ → Settled → Bool
misses e n (told.Granted kind id i k start slots owner) = false
misses e n (told.Missed kind id i k) = is_name e n (rank_of kind) id i k

-- it grants or misses an occurrence of one of these entries
pub record IsOccurrence (es : List Entry) (s : Settled) : Type 0 where
  pub entry : Entry
  pub among : Contains es entry
  pub number : ℕ
  pub named : (grants entry number s || misses entry number s) ≡ true

-- how often it is so of what these rounds settled
abbrev pub times : (Settled → Bool) → List Round → ℕ
times is rounds = sum_by (λ round. count_by is round.settled) rounds

-- by kind, by id, and of an entry in the order of its occurrences
abbrev pub has_turn_before : Entry → ℕ → ℕ → ℕ → ℕ → Bool
has_turn_before e n rank id number =
    nat_lt rank (rank_of e.kind) || ((rank == rank_of e.kind) && (nat_lt id e.id || ((id == e.id) && nat_lt number n)))

-- it had its turn before occurrence `n` of an entry
abbrev pub is_earlier : Entry → ℕ → Settled → Bool
is_earlier e n (told.Granted kind id i k start slots owner) = has_turn_before e n (rank_of kind) id (i * e.grants + k)
is_earlier e n (told.Missed kind id i k) = has_turn_before e n (rank_of kind) id (i * e.grants + k)

-- the minislots of what is granted
abbrev pub assignments_of : Settled → List Assignment
assignments_of (told.Granted kind id i k start slots owner) = record { start = start; slots = slots; owner = owner } ∷ []
assignments_of (told.Missed kind id i k) = []

-- the board of a round when an occurrence has its turn
abbrev pub board_at_turn : Entry → ℕ → Round → Board
board_at_turn e n round = assign_all round.board (flat_map assignments_of (filter (is_earlier e n) round.settled))

-- Where round `r` grants an occurrence, it starts in its window, with the minislots and the owner of its entry, as a grant
-- or as a poll, and fits on the board that it met, and nowhere before in its window. Where the round misses it, its window
-- ends in that round.
abbrev pub IsRight : Pace → ℕ → Entry → Bool → ℕ → Board → Settled → Type 0
IsRight pace r e active n board (told.Granted kind id i k start slots owner) = is_name e n (rank_of kind) id i k ≡ true →
    (start < pace.len) × (starts_within pace.time e n (r * pace.len + start) ≡ true) × (fits board slots start ≡ true)
    × (slots ≡ slots_of e active) × (owner ≡ owner_of e active) × (spot pace r e active n board ≡ Some start)
IsRight pace r e active n board (told.Missed kind id i k) = is_name e n (rank_of kind) id i k ≡ true →
    (end_after pace r ≤ window_end e n) × (window_end e n < end_after pace (r + 1))

-- What becomes of occurrence `n` of an entry in these rounds, from round 0 on, where its flow is active at some times and
-- silent at others.
pub record IsSettledOnce (pace : Pace) (speaks : ℕ → Bool) (rounds : List Round) (e : Entry) (n : ℕ) : Type 0 where
  -- it is neither granted nor missed where it doesn't come;
  pub left_out : comes e speaks n ≡ false → times (grants e n) rounds + times (misses e n) rounds ≡ 0
  -- else it is granted or missed once where its window ends before they do,
  pub closed : comes e speaks n ≡ true → window_end e n < end_after pace (length rounds) →
      times (grants e n) rounds + times (misses e n) rounds ≡ 1
  -- and else it is granted once, or neither granted nor missed
  pub waits : end_after pace (length rounds) ≤ window_end e n →
      (times (grants e n) rounds ≤ 1) × (times (misses e n) rounds ≡ 0)
  -- it is granted in its window, and missed where its window ends
  pub right : (r : ℕ) (round : Round) → slice_get rounds r ≡ Some round →
      AllByRecursion (IsRight pace r e (speaks (ideal e n)) n (board_at_turn e n round)) round.settled
  -- and in each round up to which it isn't granted, it fits at no start in its window when it has its turn
  pub no_room : comes e speaks n ≡ true → (r : ℕ) (round : Round) → slice_get rounds r ≡ Some round →
      times (grants e n) (take (r + 1) rounds) ≡ 0 →
      spot pace r e (speaks (ideal e n)) n (board_at_turn e n round) ≡ None
