-- What a round grants fits, and is what it assigns.
use Rattle.std.proofs.Common.{◌≡◌, ℕ, ◌+◌, ◌*◌, ◌&&◌, Bool, true, List, [], ◌∷◌, ◌++◌, map, flat_map, Option, Some, None, IfSome, refl, ap, sym, ◌∙◌, inl, inr, subst}
use Rattle.std.proofs.lemmas.Bool.{cases_Bool, and_parts}
use Rattle.std.proofs.lemmas.Grind.{flat_map-append}
use Rattle.us_holes.specs.Boards.{Board, Assignment, fits, assign_all, AllFit}
use Rattle.us_holes.proofs.LawLemmas.{first_of-is, assign_all-append, AllFit-append}
use Rattle.us_calendar.specs.Entries.{Entry, slots_of}
use Rattle.us_calendar.specs.Occurrences.{Pace, ideal, is_over, starts_within, coming, end_of}
use Rattle.us_calendar.specs.Settling.{SettledEntry, EntryState, spot, with_spot, settle_each, settle_entry, settle_state, speaks_in, told_as}
use Rattle.us_calendar.specs.Calendars.{Ran, run_entries}
use Rattle.us_calendar.specs.declared.settled.Settled.{Settled}
use Rattle.us_calendar.specs.Runs.{assignments_of}
use Rattle.us_calendar.proofs.SettleLemmas.{then_settle}

pub record Fitting (before : Board) (told : List Settled) (after : Board) : Type 0 where
  pub board : after ≡ assign_all before (flat_map assignments_of told)
  pub fit : AllFit before (flat_map assignments_of told)

nothing_fits : (board : Board) → Fitting board [] board
unfolding assign_all AllFit
nothing_fits board = record { board = refl; fit = tt }

spot_fits : (pace : Pace) (round : ℕ) (e : Entry) (active : Bool) (n : ℕ) (board : Board) (found : Option ℕ) →
    spot pace round e active n board ≡ found → IfSome found (λ at. fits board (slots_of e active) at ≡ true)
spot_fits pace round e active n board None is = tt
spot_fits pace round e active n board (Some at) is =
    let first = first_of-is
    (λ i. starts_within pace.time e n (round * pace.len + i) && fits board (slots_of e active) i) 0 pace.len at is in
    (and_parts (starts_within pace.time e n (round * pace.len + at)) (fits board (slots_of e active) at) first.passing).1

one_fits : (pace : Pace) (round : ℕ) (e : Entry) (active : Bool) (n : ℕ) (found : Option ℕ) (board : Board)
    (rest : Board → SettledEntry) → IfSome found (λ at. fits board (slots_of e active) at ≡ true) →
    Fitting (with_spot e active found board) (map (told_as e) (rest (with_spot e active found board)).settlements)
    (rest (with_spot e active found board)).board →
    Fitting board (map (told_as e) (then_settle pace round e active n found rest board).settlements)
    (then_settle pace round e active n found rest board).board
unfolding assign_all AllFit
one_fits pace round e active n (Some at) board rest fit others =
    record { board = others.board; fit = (fit, others.fit) }
one_fits pace round e active n None board rest fit others = elim (cases_Bool (is_over pace round e n)) [
  | inl t ↦ rw t (record { board = others.board; fit = others.fit })
  | inr f ↦ rw f others
]

each_fits : (pace : Pace) (round : ℕ) (e : Entry) (speaks : ℕ → Bool) (ns : List ℕ) (board : Board) →
    Fitting board (map (told_as e) (settle_each pace round e speaks ns board).settlements)
    (settle_each pace round e speaks ns board).board
unfolding settle_each
each_fits pace round e speaks [] board = nothing_fits board
each_fits pace round e speaks (n ∷ ns) board =
    let active : Bool = speaks (ideal e n) in
    let found : Option ℕ = spot pace round e active n board in
    one_fits pace round e active n found board (settle_each pace round e speaks ns)
    (spot_fits pace round e active n board found refl)
    (each_fits pace round e speaks ns (with_spot e active found board))

pub state_fits : (pace : Pace) (round : ℕ) (state : EntryState) (board : Board) →
    Fitting board (map (told_as state.entry) (settle_state pace round state board).settlements)
    (settle_state pace round state board).board
unfolding settle_entry
state_fits pace round state board =
    each_fits pace round state.entry (speaks_in state)
    (coming state.entry (speaks_in state) (end_of pace round) state.settled) board

both_fit : (before middle after : Board) (one other : List Settled) → Fitting before one middle →
    Fitting middle other after → Fitting before (one ++ other) after
both_fit before middle after one other f g =
    let first : List Assignment = flat_map assignments_of one in
    let second : List Assignment = flat_map assignments_of other in
    let split = flat_map-append assignments_of one other in
    record {
      board = g.board ∙ ap (λ b. assign_all b second) f.board ∙ sym (assign_all-append before first second) ∙
          ap (assign_all before) (sym split);
      fit = subst (AllFit before) (sym split)
          (AllFit-append before first second f.fit (subst (λ b. AllFit b second) f.board g.fit));
    }

run_fits : (pace : Pace) (round : ℕ) (states : List EntryState) (board : Board) →
    Fitting board (run_entries pace round states board).settled (run_entries pace round states board).board
unfolding run_entries
run_fits pace round [] board = nothing_fits board
run_fits pace round (state ∷ states) board =
    let one : SettledEntry = settle_state pace round state board in
    let rest : Ran = run_entries pace round states one.board in
    both_fit board one.board rest.board (map (told_as state.entry) one.settlements) rest.settled
    (state_fits pace round state board) (run_fits pace round states one.board)

pub grants_fit : (pace : Pace) (round : ℕ) (states : List EntryState) (board : Board) →
    ((run_entries pace round states board).board ≡
    assign_all board (flat_map assignments_of (run_entries pace round states board).settled))
    × AllFit board (flat_map assignments_of (run_entries pace round states board).settled)
grants_fit pace round states board =
    let fitting = run_fits pace round states board in
    (fitting.board, fitting.fit)
