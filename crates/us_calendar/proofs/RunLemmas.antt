-- A round from some entry on: those before it have had their turn.
use Rattle.std.proofs.Common.{◌≡◌, ℕ, zero, suc, ◌+◌, ◌<◌, ◌≤◌, List, [], ◌∷◌, ◌++◌, length, map, Some, None, slice_get, nat_lt, ◌==◌, Bool, Option, if◌then◌else◌, refl, ap, ◌∙◌, le-ltb, eq-eqb, arith}
use Rattle.std.proofs.Math.ListN.{set}
use Rattle.std.proofs.lemmas.List.{append-nil}
use Rattle.us_holes.specs.Boards.{Board}
use Rattle.us_calendar.specs.declared.silences.Silence.{Silence}
use Rattle.us_calendar.specs.Entries.{Entry}
use Rattle.us_calendar.specs.Occurrences.{Pace, ideal, end_of}
use Rattle.us_calendar.specs.Settling.{EntryState, SettledEntry, settle_entry, settle_state, if_detected, speaks_in, waiting_at, after_settling, told_as}
use Rattle.us_calendar.specs.Calendars.{Ran, run_entries}
use Rattle.us_calendar.specs.Kept.{IsQuiet}
use Rattle.us_calendar.proofs.IdealLemmas.{windows}
use Rattle.us_calendar.proofs.SettleLemmas.{nothing, settle-none}

pub the_some : (one other : EntryState) → Some one ≡ Some other → one ≡ other
the_some one other e = cc

-- where nothing is due, nothing happens
quiet_state : (pace : Pace) (round : ℕ) (state : EntryState) (board : Board) → IsQuiet pace round state →
    settle_state pace round state board ≡ nothing board
quiet_state pace round state board quiet =
    let e : Entry = state.entry in
    ap (λ settled. settle_entry pace round e (speaks_in state) settled board) quiet.settled ∙
    settle-none pace round e (speaks_in state) (length state.settled) board (windows e quiet.entry) quiet.later

-- and the state stays as it is
quiet_waiting : (silence : Option Silence) (end time : ℕ) (kept : Bool) (waiting : Option Bool) → end ≤ time →
    if_detected silence (if nat_lt time end then Some kept else if time == time then waiting else None) waiting ≡ waiting
quiet_waiting None end time kept waiting later = refl
quiet_waiting (Some s) end time kept waiting later = rw (le-ltb time end later, eq-eqb time time refl) refl

quiet_after : (pace : Pace) (round : ℕ) (state : EntryState) → IsQuiet pace round state →
    after_settling (end_of pace round) state [] ≡ state
quiet_after pace round state quiet =
    let end : ℕ = end_of pace round in
    let time : ℕ = ideal state.entry (length state.settled) in
    ap (λ settled. record {
      entry = state.entry;
      settled = settled;
      active = state.active;
      waiting = waiting_at end state (ideal state.entry (length settled));
    }) (append-nil state.settled) ∙ ap (λ waiting. record {
      entry = state.entry;
      settled = state.settled;
      active = state.active;
      waiting = waiting;
    }) (quiet_waiting state.entry.silence end time (speaks_in state time) state.waiting quiet.later)

module _ (pace : Pace) (round : ℕ) where
  -- an entry before those that have their turn stays
  abbrev before_states : EntryState → Ran → Ran
  before_states state ran = record { states = state ∷ ran.states; board = ran.board; settled = ran.settled }

  abbrev pub run_from : ℕ → List EntryState → Board → Ran
  run_from zero states board = run_entries pace round states board
  run_from (suc skip) [] board = record { states = []; board = board; settled = [] }
  run_from (suc skip) (state ∷ states) board = before_states state (run_from skip states board)

  -- what one entry comes to, before the others
  abbrev then_run : EntryState → SettledEntry → (Board → Ran) → Ran
  then_run state one rest =
      let ran : Ran = rest one.board in
      record {
        states = after_settling (end_of pace round) state one.settlements ∷ ran.states;
        board = ran.board;
        settled = map (told_as state.entry) one.settlements ++ ran.settled;
      }

  run_entries-cons : (state : EntryState) (states : List EntryState) (board : Board) →
      run_entries pace round (state ∷ states) board ≡ then_run state (settle_state pace round state board)
      (run_entries pace round states)
  unfolding run_entries
  run_entries-cons state states board = refl

  skip_state : (state : EntryState) (states : List EntryState) (board : Board) → IsQuiet pace round state →
      run_entries pace round (state ∷ states) board ≡ before_states state (run_entries pace round states board)
  skip_state state states board quiet =
      run_entries-cons state states board ∙ ap (λ one. then_run state one (run_entries pace round states))
      (quiet_state pace round state board quiet) ∙
      ap (λ now. before_states now (run_entries pace round states board)) (quiet_after pace round state quiet)

  skip_one : (p : ℕ) (states : List EntryState) (state : EntryState) (board : Board) → slice_get states p ≡ Some state →
      IsQuiet pace round state → run_from p states board ≡ run_from (suc p) states board
  skip_one zero [] state board is quiet = let never : None ≡ Some state = is in cc
  skip_one zero (first ∷ states) state board is quiet =
      skip_state first states board (rw (the_some first state is) quiet)
  skip_one (suc p) [] state board is quiet = refl
  skip_one (suc p) (first ∷ states) state board is quiet =
      ap (before_states first) (skip_one p states state board is quiet)

  pub run_past : (p : ℕ) (states : List EntryState) (board : Board) → length states ≤ p →
      run_from p states board ≡ record { states = states; board = board; settled = [] }
  unfolding run_entries
  run_past zero [] board past = refl
  run_past zero (state ∷ states) board past = absurd (omega (arith, past))
  run_past (suc p) [] board past = refl
  run_past (suc p) (state ∷ states) board past = ap (before_states state) (run_past p states board (omega (arith, past)))

  has_state : (states : List EntryState) (p : ℕ) → p < length states → (state : EntryState) × (slice_get states p ≡ Some state)
  has_state [] p inside = absurd (omega (arith, inside))
  has_state (state ∷ states) zero inside = (state, refl)
  has_state (state ∷ states) (suc p) inside = has_state states p (omega (arith, inside))

  -- entries of which nothing is due are passed
  pub skip_to : (k from : ℕ) (states : List EntryState) (board : Board) → from + k ≤ length states →
      ((i : ℕ) (state : EntryState) → from ≤ i → i < from + k → slice_get states i ≡ Some state → IsQuiet pace round state) →
      run_from from states board ≡ run_from (from + k) states board
  skip_to zero from states board inside quiet =
      let same : from ≡ from + zero = omega arith in
      ap (λ p. run_from p states board) same
  skip_to (suc k) from states board inside quiet =
      let here = has_state states from (omega (arith, inside)) in
      let next : suc from ≡ from + 1 = omega arith in
      let end : from + 1 + k ≡ from + suc k = omega arith in
      skip_one from states here.0 board here.1 (quiet from here.0 (omega arith) (omega arith) here.1) ∙
      ap (λ p. run_from p states board) next ∙
      skip_to k (from + 1) states board (omega (arith, inside))
      (λ i state low high is. quiet i state (omega (arith, low)) (omega (arith, high)) is) ∙
      ap (λ p. run_from p states board) end

  -- and the next one has its turn
  pub run_step : (p : ℕ) (states : List EntryState) (state : EntryState) (board : Board) → slice_get states p ≡ Some state →
      run_from p states board ≡
      (let one : SettledEntry = settle_state pace round state board in
      let rest : Ran = run_from (suc p) (set states p (after_settling (end_of pace round) state one.settlements)) one.board in
      record {
        states = rest.states;
        board = rest.board;
        settled = map (told_as state.entry) one.settlements ++ rest.settled;
      })
  run_step zero [] state board is = let never : None ≡ Some state = is in cc
  run_step zero (first ∷ states) state board is =
      rw (the_some first state is) (run_entries-cons state states board)
  run_step (suc p) [] state board is = let never : None ≡ Some state = is in cc
  run_step (suc p) (first ∷ states) state board is = ap (before_states first) (run_step p states state board is)
