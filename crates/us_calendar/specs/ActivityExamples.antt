-- Flows that fall silent and are active again, computed by the definitions alone.
use Rattle.std.specs.Prelude.{◌≡◌, ℕ, List, [], ◌∷◌, ◌++◌, map, Bool, true, false, Some, None, refl}
use Rattle.std.specs.List.{AllByRecursion}
use Rattle.us_flows.specs.declared.channels.Channel.{Channel}
use Rattle.us_flows.specs.Tables.{Tables}
use Rattle.us_flows.specs.Lawful.{AreTables}
use Rattle.us_holes.specs.Boards.{Owner, Board, empty_board, assign, first_of}
use Rattle.us_calendar.specs.Entries.{Entry, entries}
use Rattle.us_calendar.specs.Activity.{active_in, speaks_by}
use Rattle.us_calendar.specs.Occurrences.{Pace, due, coming, ideal}
use Rattle.us_calendar.specs.Settling.{opening_state, settle_each, settle_entry}
use Rattle.us_calendar.specs.Calendars.{Calendar, run_entries, pace_of, opening, ran, Ran}
use Rattle.us_calendar.specs.Runs.{Round, rounds_on, after_rounds, board_at_turn}
use Rattle.us_calendar.specs.ByCuts.{settle_by, SettlesByCuts, StartsLeast}
use Rattle.us_calendar.specs.declared.settled.Settled.{Settled}
use Rattle.us_calendar.specs.declared.settled.Settled.TheVariants as told
use Rattle.us_calendar.specs.declared.kinds.Kind.TheVariants as kinds

-- MAPs of 4 minislots of a tick, so that minislots start at 0, 25, 50 and 75, and a round lasts 100
abbrev pace : Pace
pace = record { time = record { minislot_log2 = 0; rate_log2 = 0 }; len = 4 }

abbrev grant : Owner
grant = record { sid = 513; iuc = 11 }

abbrev poll : Owner
poll = record { sid = 513; iuc = 1 }

-- Two grants of a minislot in each interval, or a poll of two. Word 0 marks the flow as silent, word 1 as active.
abbrev entry : ℕ → ℕ → ℕ → Entry
entry start interval jitter = record {
  kind = kinds.Activity;
  id = 1;
  owner = grant;
  slots = 1;
  start = start;
  interval = interval;
  jitter = jitter;
  grants = 2;
  silence = Some (record { word = 0; slots = 2 });
}

abbrev calendar : Entry → Calendar
calendar e = record { pace = pace; next_round = 0; states = opening_state e ∷ [] }

abbrev idle : Board
idle = empty_board 4

-- what rounds with these cuts settle
abbrev settled_on : Entry → List (List ℕ) → List Board → List (List Settled)
settled_on e cuts boards = map (λ (round : Round). round.settled) (rounds_on (calendar e) cuts boards)

abbrev none : List ℕ
none = 0 ∷ 0 ∷ []

abbrev silent : List ℕ
silent = 1 ∷ 0 ∷ []

abbrev active : List ℕ
active = 0 ∷ 1 ∷ []

-- both grants of interval `i`, one behind the other from the MAP's start on,
abbrev granted : ℕ → List Settled
granted i = told.Granted kinds.Activity 1 i 0 0 1 grant ∷ told.Granted kinds.Activity 1 i 1 1 1 grant ∷ []

-- and its poll
abbrev polled : ℕ → List Settled
polled i = told.Granted kinds.Activity 1 i 0 0 2 poll ∷ []

-- an interval in each round: silent in round 1, and active again in round 2
three_rounds : settled_on (entry 0 100 50) (none ∷ silent ∷ active ∷ []) (idle ∷ idle ∷ idle ∷ []) ≡
    granted 0 ∷ polled 1 ∷ granted 2 ∷ []
unfolding run_entries settle_entry settle_each coming due first_of
three_rounds = refl

-- both marks in one round: active
both_marks : settled_on (entry 0 100 50) (none ∷ (1 ∷ 1 ∷ []) ∷ []) (idle ∷ idle ∷ []) ≡ granted 0 ∷ granted 1 ∷ []
unfolding run_entries settle_entry settle_each coming due first_of
both_marks = refl

-- a mark that tells nothing new
marked_twice : settled_on (entry 0 100 50) (active ∷ active ∷ []) (idle ∷ idle ∷ []) ≡ granted 0 ∷ granted 1 ∷ []
unfolding run_entries settle_entry settle_each coming due first_of
marked_twice = refl

-- marks of other flows, and cuts that lack the words
others_marks : settled_on (entry 0 100 50) ((0 ∷ 0 ∷ 1 ∷ 1 ∷ []) ∷ [] ∷ []) (idle ∷ idle ∷ []) ≡ granted 0 ∷ granted 1 ∷ []
unfolding run_entries settle_entry settle_each coming due first_of
others_marks = refl

-- silence lasts over intervals and rounds without a mark
long_silence : settled_on (entry 0 100 50) (silent ∷ none ∷ none ∷ none ∷ []) (idle ∷ idle ∷ idle ∷ idle ∷ []) ≡
    polled 0 ∷ polled 1 ∷ polled 2 ∷ polled 3 ∷ []
unfolding run_entries settle_entry settle_each coming due first_of
long_silence = refl

-- Two intervals begin in each round, so that the second one has no minislot behind the first one's grants. Where a silent
-- round has one poll each, the next round begins with the grants of its first interval.
two_intervals : settled_on (entry 0 50 20) (silent ∷ active ∷ []) (idle ∷ idle ∷ []) ≡
    (told.Granted kinds.Activity 1 0 0 0 2 poll ∷ told.Granted kinds.Activity 1 1 0 2 2 poll ∷ [])
    ∷ (told.Granted kinds.Activity 1 2 0 0 1 grant ∷ told.Missed kinds.Activity 1 2 1 ∷
    told.Granted kinds.Activity 1 3 0 2 1 grant ∷ told.Missed kinds.Activity 1 3 1 ∷ []) ∷ []
unfolding run_entries settle_entry settle_each coming due first_of
two_intervals = refl

-- An interval that begins in round 0, where it finds no minislot, and goes on in round 1. What the flow says then comes too
-- late for it: it keeps its grants,
waits_active : settled_on (entry 90 200 40) (none ∷ silent ∷ []) (idle ∷ idle ∷ []) ≡ [] ∷ granted 0 ∷ []
unfolding run_entries settle_entry settle_each coming due first_of
waits_active = refl

-- also where one of them was granted before,
waits_partly : settled_on (entry 75 200 40) (none ∷ silent ∷ []) (idle ∷ idle ∷ []) ≡
    (told.Granted kinds.Activity 1 0 0 3 1 grant ∷ []) ∷ (told.Granted kinds.Activity 1 0 1 0 1 grant ∷ []) ∷ []
unfolding run_entries settle_entry settle_each coming due first_of
waits_partly = refl

-- or its poll,
waits_silent : settled_on (entry 90 200 40) (silent ∷ active ∷ []) (idle ∷ idle ∷ []) ≡ [] ∷ polled 0 ∷ []
unfolding run_entries settle_entry settle_each coming due first_of
waits_silent = refl

-- while the next interval is as the flow is when it begins.
then_silent : settled_on (entry 90 100 40) (none ∷ silent ∷ none ∷ []) (idle ∷ idle ∷ idle ∷ []) ≡
    [] ∷ granted 0 ∷ polled 1 ∷ []
unfolding run_entries settle_entry settle_each coming due first_of
then_silent = refl

-- a poll that finds no room is missed, and nothing else of its interval
poll_missed : settled_on (entry 0 100 50) (silent ∷ []) (assign idle 0 3 grant ∷ []) ≡
    (told.Missed kinds.Activity 1 0 0 ∷ []) ∷ []
unfolding run_entries settle_entry settle_each coming due first_of
poll_missed = refl

-- what is kept then: both occurrences of the interval are settled, and the flow is silent
kept : (after_rounds (calendar (entry 0 200 50)) (silent ∷ []) (idle ∷ [])).states ≡ record {
  entry = entry 0 200 50;
  settled = 0 ∷ 1 ∷ [];
  active = false;
  waiting = None;
} ∷ []
unfolding run_entries settle_entry settle_each coming due first_of
kept = refl

-- the activity in each round
abbrev in_rounds : List Bool
in_rounds = map (active_in (Some (record { word = 0; slots = 2 })) (none ∷ silent ∷ none ∷ active ∷ [])) (0 ∷ 1 ∷ 2 ∷ 3 ∷ [])

fold : in_rounds ≡ true ∷ false ∷ false ∷ true ∷ []
fold = refl

-- By all cuts so far.

-- what a round settles so, behind rounds with these boards
abbrev by_cuts : Entry → List (List ℕ) → List Board → ℕ → List ℕ → Board → List Settled
by_cuts e cuts boards round cut board =
    (settle_by pace (cuts ++ cut ∷ []) round (after_rounds (calendar e) cuts boards).states board).settled

-- the third of the three rounds above, and the interval that goes on in round 1
third_round : by_cuts (entry 0 100 50) (none ∷ silent ∷ []) (idle ∷ idle ∷ []) 2 active idle ≡ granted 2
unfolding run_entries settle_entry settle_each settle_by coming due first_of
third_round = refl

goes_on : by_cuts (entry 90 200 40) (none ∷ []) (idle ∷ []) 1 silent idle ≡ granted 0
unfolding run_entries settle_entry settle_each settle_by coming due first_of
goes_on = refl

-- what any channel of accepted tables settles in round 0 of a run
first_round : SettlesByCuts → (t : Tables) (c : Channel) (cut : List ℕ) (board : Board) → AreTables t →
    (ran (opening t c) cut board).settled ≡ (settle_by (pace_of t c) (cut ∷ []) 0 (opening t c).states board).settled
first_round law t c cut board lawful = (law t c [] [] cut board lawful refl).settled

-- and in round 1, behind whatever round 0 cut: the board that it leaves,
abbrev second : Tables → Channel → List ℕ → List ℕ → Board → Board → Ran
second t c first cut before board = ran (after_rounds (opening t c) (first ∷ []) (before ∷ [])) cut board

second_leaves : SettlesByCuts → (t : Tables) (c : Channel) (first cut : List ℕ) (before board : Board) → AreTables t →
    (second t c first cut before board).board
    ≡ (settle_by (pace_of t c) (first ∷ cut ∷ []) 1 (after_rounds (opening t c) (first ∷ []) (before ∷ [])).states board).board
second_leaves law t c first cut before board lawful = (law t c (first ∷ []) (before ∷ []) cut board lawful refl).leaves

-- on which each grant has the least minislot
second_least : SettlesByCuts → (t : Tables) (c : Channel) (first cut : List ℕ) (before board : Board) → AreTables t →
    AllByRecursion (λ e. (n : ℕ) →
    AllByRecursion (StartsLeast (pace_of t c) 1 e (speaks_by (pace_of t c) (first ∷ cut ∷ []) e (ideal e n)) n
    (board_at_turn e n (record { board = board; settled = (second t c first cut before board).settled })))
    (second t c first cut before board).settled) (entries t c)
second_least law t c first cut before board lawful = (law t c (first ∷ []) (before ∷ []) cut board lawful refl).least

-- An entry with a jitter above its interval, which no accepted tables have. Intervals 0 and 1 both wait until round 2, and what
-- is kept is of the first alone: the second begins in a silent round, but gets its grants,
abbrev full : Board
full = assign idle 0 4 grant

both_wait : settled_on (entry 0 100 250) (none ∷ silent ∷ active ∷ []) (full ∷ full ∷ idle ∷ []) ≡
    [] ∷ [] ∷ (granted 0 ++ told.Granted kinds.Activity 1 1 0 2 1 grant ∷ told.Granted kinds.Activity 1 1 1 3 1 grant ∷ []) ∷ []
unfolding run_entries settle_entry settle_each coming due first_of
both_wait = refl

-- where by the cuts it has a poll
polled_by_cuts : by_cuts (entry 0 100 250) (none ∷ silent ∷ []) (full ∷ full ∷ []) 2 active idle ≡
    granted 0 ++ told.Granted kinds.Activity 1 1 0 2 2 poll ∷ []
unfolding run_entries settle_entry settle_each settle_by coming due first_of
polled_by_cuts = refl
