-- The rounds of a calendar go by their cuts.
use Rattle.std.proofs.Common.{◌≡◌, ℕ, ◌+◌, ◌*◌, ◌&&◌, Bool, List, [], ◌∷◌, ◌++◌, length, map, Option, Some, slice_get, refl, ap, ◌∙◌, arith}
use Rattle.std.specs.List.{AllByRecursion}
use Rattle.us_holes.specs.Boards.{Board, fits}
use Rattle.us_holes.proofs.LawLemmas.{first_of-is}
use Rattle.us_calendar.specs.Entries.{Entry, slots_of}
use Rattle.us_calendar.specs.Occurrences.{Pace, ideal, starts_within}
use Rattle.us_calendar.specs.Activity.{hears_of, speaks_by}
use Rattle.us_calendar.specs.Settling.{EntryState, SettledEntry, heard, opening_state, speaks_in, settle_entry, settle_state, told_as}
use Rattle.us_calendar.specs.Calendars.{Calendar, Ran, run_entries, ran, after}
use Rattle.us_calendar.specs.Runs.{Round, rounds_on, after_rounds, board_at_turn, IsRight, IsSettledOnce}
use Rattle.us_calendar.specs.ByCuts.{settle_by, StartsLeast, GoesByCuts}
use Rattle.us_calendar.specs.declared.settled.Settled.{Settled}
use Rattle.us_calendar.specs.declared.settled.Settled.TheVariants as told
use Rattle.us_calendar.specs.Kept.{state_from}
use Rattle.us_calendar.proofs.IdealLemmas.{HasWindows}
use Rattle.us_calendar.proofs.ActivityLemmas.{Held, agree, settle_same}
use Rattle.us_calendar.proofs.OnceLaws.{IsOrdered, after_all, settled_once}

-- Rounds don't change the pace, and count on.

pace_stays : (calendar : Calendar) (cuts : List (List ℕ)) (boards : List Board) →
    (after_rounds calendar cuts boards).pace ≡ calendar.pace
pace_stays calendar [] boards = refl
pace_stays calendar (cut ∷ cuts) [] = refl
pace_stays calendar (cut ∷ cuts) (board ∷ boards) = pace_stays (after calendar cut board) cuts boards

rounds_count : (calendar : Calendar) (cuts : List (List ℕ)) (boards : List Board) → length cuts ≡ length boards →
    (after_rounds calendar cuts boards).next_round ≡ calendar.next_round + length cuts
rounds_count calendar [] boards many = omega arith
rounds_count calendar (cut ∷ cuts) [] many = absurd (omega (arith, many))
rounds_count calendar (cut ∷ cuts) (board ∷ boards) many =
    omega (arith, rounds_count (after calendar cut board) cuts boards (omega (arith, many)))

-- the round behind them is the last of one more
last_round : (calendar : Calendar) (cuts : List (List ℕ)) (boards : List Board) (cut : List ℕ) (board : Board) →
    length cuts ≡ length boards →
    slice_get (rounds_on calendar (cuts ++ cut ∷ []) (boards ++ board ∷ [])) (length cuts)
    ≡ Some (record { board = board; settled = (ran (after_rounds calendar cuts boards) cut board).settled })
last_round calendar [] [] cut board many = refl
last_round calendar [] (b ∷ boards) cut board many = absurd (omega (arith, many))
last_round calendar (c ∷ cuts) [] cut board many = absurd (omega (arith, many))
last_round calendar (c ∷ cuts) (b ∷ boards) cut board many =
    last_round (after calendar c b) cuts boards cut board (omega (arith, many))

-- Starts.

starts_least : (pace : Pace) (r : ℕ) (e : Entry) (active : Bool) (n : ℕ) (board : Board) (s : Settled) →
    IsRight pace r e active n board s → StartsLeast pace r e active n board s
starts_least pace r e active n board (told.Granted kind id i k start slots owner) right = λ named.
    let found = first_of-is (λ at. starts_within pace.time e n (r * pace.len + at) && fits board (slots_of e active) at) 0
    pace.len start (right named).5 in
    record {
      passing = found.passing;
      above = found.above;
      below = omega (arith, found.below);
      first = found.first;
    }
starts_least pace r e active n board (told.Missed kind id i k) right = tt

all_least : (pace : Pace) (r : ℕ) (e : Entry) (active : Bool) (n : ℕ) (board : Board) (all : List Settled) →
    AllByRecursion (IsRight pace r e active n board) all → AllByRecursion (StartsLeast pace r e active n board) all
all_least pace r e active n board [] right = tt
all_least pace r e active n board (s ∷ all) right =
    (starts_least pace r e active n board s right.0, all_least pace r e active n board all right.1)

of_each : (P Q : Entry → Type 0) (es : List Entry) → ((e : Entry) → P e → Q e) → AllByRecursion P es → AllByRecursion Q es
of_each P Q [] each all = tt
of_each P Q (e ∷ es) each all = (each e all.0, of_each P Q es each all.1)

-- What is kept says what the cuts say.

-- of a row, once it has heard a round's cut, whatever board it finds
abbrev SettlesSame : Pace → List (List ℕ) → ℕ → List ℕ → EntryState → Type 0
SettlesSame pace said r cut row = (board : Board) →
    settle_state pace r (heard cut row) board
    ≡ settle_entry pace r row.entry (speaks_by pace said row.entry) row.settled board

held_same : (pace : Pace) (cuts : List (List ℕ)) (cut : List ℕ) (e : Entry) (active : Bool) (waiting : Option Bool)
    (first : ℕ) → HasWindows e → Held pace (cuts ++ cut ∷ []) e cuts active waiting first →
    SettlesSame pace (cuts ++ cut ∷ []) (length cuts) cut (state_from e active waiting first)
held_same pace cuts cut e active waiting first windows held = λ board.
    let said : List (List ℕ) = cuts ++ cut ∷ [] in
    settle_same pace (length cuts) e (speaks_in (state_from e (hears_of e.silence active cut) waiting first))
    (speaks_by pace said e) first board
    (agree pace said e cuts [] cut (length cuts) first active waiting refl refl windows held)

entries_same : (pace : Pace) (said : List (List ℕ)) (r : ℕ) (cut : List ℕ) (rows : List EntryState) (board : Board) →
    AllByRecursion (SettlesSame pace said r cut) rows →
    ((run_entries pace r (map (heard cut) rows) board).settled ≡ (settle_by pace said r rows board).settled)
    × ((run_entries pace r (map (heard cut) rows) board).board ≡ (settle_by pace said r rows board).board)
unfolding run_entries settle_by
entries_same pace said r cut [] board all = (refl, refl)
entries_same pace said r cut (row ∷ rows) board all =
    let one : SettledEntry = settle_entry pace r row.entry (speaks_by pace said row.entry) row.settled board in
    let first = all.0 board in
    let rest = entries_same pace said r cut rows one.board all.1 in (
      ap (λ (o : SettledEntry). map (told_as row.entry) o.settlements
          ++ (run_entries pace r (map (heard cut) rows) o.board).settled) first
          ∙ ap (λ more. map (told_as row.entry) one.settlements ++ more) rest.0,
      ap (λ (o : SettledEntry). (run_entries pace r (map (heard cut) rows) o.board).board) first ∙ rest.1,
    )

pub settles_by_cuts : (pace : Pace) (es : List Entry) (cuts : List (List ℕ)) (boards : List Board) (cut : List ℕ) (board : Board) →
    IsOrdered es → AllByRecursion HasWindows es → length cuts ≡ length boards →
    GoesByCuts pace es (cuts ++ cut ∷ []) (length cuts)
    (after_rounds (record { pace = pace; next_round = 0; states = map opening_state es }) cuts boards).states board
    (ran (after_rounds (record { pace = pace; next_round = 0; states = map opening_state es }) cuts boards) cut board)
settles_by_cuts pace es cuts boards cut board ordered windows many = record {
  settled = ap (λ (d : Ran). d.settled) done_is ∙ both.0;
  leaves = ap (λ (d : Ran). d.board) done_is ∙ both.1;
  least = of_each (λ e. (n : ℕ) → IsSettledOnce pace (speaks_by pace said e) all e n)
      (λ e. (n : ℕ) → AllByRecursion (StartsLeast pace (length cuts) e (speaks_by pace said e (ideal e n)) n (board_at_turn e n now)) now.settled)
      es (λ e once n. all_least pace (length cuts) e (speaks_by pace said e (ideal e n)) n (board_at_turn e n now) now.settled
      ((once n).right (length cuts) now (last_round first cuts boards cut board many)))
      (settled_once pace es said (boards ++ board ∷ []) ordered windows);
}
  where
    said : List (List ℕ)
    said = cuts ++ cut ∷ []

    first : Calendar
    first = record { pace = pace; next_round = 0; states = map opening_state es }

    last : Calendar
    last = after_rounds first cuts boards

    all : List Round
    all = rounds_on first said (boards ++ board ∷ [])

    now : Round
    now = record { board = board; settled = (ran last cut board).settled }

    counted : last.next_round ≡ length cuts
    counted = omega (arith, rounds_count first cuts boards many)

    done_is : ran last cut board ≡ run_entries pace (length cuts) (map (heard cut) last.states) board
    done_is =
        ap (λ (p : Pace). run_entries p last.next_round (map (heard cut) last.states) board) (pace_stays first cuts boards)
        ∙ ap (λ r. run_entries pace r (map (heard cut) last.states) board) counted

    rows_same : AllByRecursion (SettlesSame pace said (length cuts) cut) last.states
    rows_same =
        after_all (SettlesSame pace said (length cuts) cut) pace es said cuts (cut ∷ []) boards refl
        (held_same pace cuts cut) ordered windows many

    both : ((run_entries pace (length cuts) (map (heard cut) last.states) board).settled
        ≡ (settle_by pace said (length cuts) last.states board).settled)
        × ((run_entries pace (length cuts) (map (heard cut) last.states) board).board
        ≡ (settle_by pace said (length cuts) last.states board).board)
    both = entries_same pace said (length cuts) cut last.states board rows_same
