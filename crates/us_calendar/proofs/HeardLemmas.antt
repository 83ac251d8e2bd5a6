-- Which entries hear, and what hearing changes.
use Rattle.std.proofs.Common.{◌≡◌, ℕ, zero, suc, List, [], ◌∷◌, length, map, Option, Some, None, slice_get, refl, ap, sym, ◌∙◌, subst, arith, is_some, true, false}
use Rattle.std.proofs.lemmas.List.{length-map}
use Rattle.us_holes.specs.Boards.{Board}
use Rattle.us_calendar.specs.declared.silences.Silence.{Silence}
use Rattle.us_calendar.specs.Entries.{Entry}
use Rattle.us_calendar.specs.Occurrences.{Pace}
use Rattle.us_calendar.specs.Settling.{EntryState, heard, settle_state}
use Rattle.us_calendar.specs.Calendars.{run_entries}
use Rattle.us_calendar.specs.Kept.{AreHeard}

-- whether the activity of a flow is detected

pub some_of : (o : Option Silence) → is_some o ≡ true → (s : Silence) × (o ≡ Some s)
some_of None h = let never : false ≡ true = h in absurd cc
some_of (Some s) h = (s, refl)

pub none_of : (o : Option Silence) → is_some o ≡ false → o ≡ None
none_of None h = refl
none_of (Some s) h = let never : true ≡ false = h in absurd cc

abbrev pub entries_of : List EntryState → List Entry
entries_of states = map (λ state. state.entry) states

-- neither hearing nor a round changes the entries
pub entries_heard : (cut : List ℕ) (states : List EntryState) → entries_of (map (heard cut) states) ≡ entries_of states
entries_heard cut [] = refl
entries_heard cut (state ∷ states) = ap (λ es. state.entry ∷ es) (entries_heard cut states)

pub entries_stay : (pace : Pace) (round : ℕ) (states : List EntryState) (board : Board) →
    entries_of (run_entries pace round states board).states ≡ entries_of states
unfolding run_entries
entries_stay pace round [] board = refl
entries_stay pace round (state ∷ states) board =
    ap (λ es. state.entry ∷ es) (entries_stay pace round states (settle_state pace round state board).board)

-- so who hears is a question of the entries alone

entry_at : (states : List EntryState) (p : ℕ) (state : EntryState) → slice_get states p ≡ Some state →
    slice_get (entries_of states) p ≡ Some state.entry
entry_at [] p state is = let never : None ≡ Some state = is in cc
entry_at (first ∷ states) zero state is =
    let same : Some first ≡ Some state = is in
    let equal : first ≡ state = cc in
    ap (λ s. Some s.entry) equal
entry_at (first ∷ states) (suc p) state is = entry_at states p state is

state_at : (states : List EntryState) (p : ℕ) (e : Entry) → slice_get (entries_of states) p ≡ Some e →
    (state : EntryState) × (slice_get states p ≡ Some state) × (state.entry ≡ e)
state_at [] p e is = let never : None ≡ Some e = is in cc
state_at (first ∷ states) zero e is =
    let same : Some first.entry ≡ Some e = is in
    let equal : first.entry ≡ e = cc in
    (first, refl, equal)
state_at (first ∷ states) (suc p) e is = state_at states p e is

same_heard : (old new : List EntryState) (from to : ℕ) → entries_of new ≡ entries_of old → AreHeard old from to →
    AreHeard new from to
same_heard old new from to same are =
    record {
      inside = omega (arith, are.inside, many);
      before = λ p state is low. let was = back p state is in
          ap (λ e. e.silence) (sym was.2) ∙ are.before p was.0 was.1 low;
      behind = λ p state is low. let was = back p state is in
          ap (λ e. e.silence) (sym was.2) ∙ are.behind p was.0 was.1 low;
    }
  where
    many : length new ≡ length old
    many =
        sym (length-map new (λ state. state.entry)) ∙ ap length same ∙ length-map old (λ state. state.entry)

    back : (p : ℕ) (state : EntryState) → slice_get new p ≡ Some state →
        (was : EntryState) × (slice_get old p ≡ Some was) × (was.entry ≡ state.entry)
    back p state is =
        state_at old p state.entry (subst (λ es. slice_get es p ≡ Some state.entry) same (entry_at new p state is))

pub heard_now : (cut : List ℕ) (states : List EntryState) (from to : ℕ) → AreHeard states from to →
    AreHeard (map (heard cut) states) from to
heard_now cut states from to are =
    same_heard states (map (heard cut) states) from to (entries_heard cut states) are

pub heard_then : (pace : Pace) (round : ℕ) (states : List EntryState) (board : Board) (from to : ℕ) →
    AreHeard states from to → AreHeard (run_entries pace round states board).states from to
heard_then pace round states board from to are =
    same_heard states (run_entries pace round states board).states from to (entries_stay pace round states board) are
