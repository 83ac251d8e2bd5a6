-- What a round does with the occurrences that are due (ours): each is granted, or missed, or waits.
use Rattle.std.specs.Prelude.{ℕ, ◌+◌, ◌-◌, ◌*◌, ◌/◌, ◌%◌, ◌==◌, nat_lt, ◌&&◌, Bool, true, if◌then◌else◌, List, [], ◌∷◌, ◌++◌, length, flat_map, Option, Some, None, unwrap_or}
use Rattle.std.specs.List.{range_with_len}
use Rattle.us_holes.specs.Boards.{Board, assign, fits, first_of}
use Rattle.us_calendar.specs.Entries.{Entry, slots_of, owner_of}
use Rattle.us_calendar.specs.Occurrences.{Pace, ideal, starts_within, end_of, is_over, coming}
use Rattle.us_calendar.specs.Activity.{hears_of}
use Rattle.us_calendar.specs.declared.silences.Silence.{Silence}
use Rattle.us_calendar.specs.declared.settled.Settled.{Settled}
use Rattle.us_calendar.specs.declared.settled.Settled.TheVariants as told

-- an occurrence that is settled: its number, whether its flow was active when it was ideal, and the minislot of the MAP
-- where it was granted, or none where it is missed
pub record Settlement : Type 0 where
  pub number : ℕ
  pub active : Bool
  pub start : Option ℕ

-- the least minislot of this round's MAP that lies in its window and where it fits, as a grant or as a poll
abbrev pub spot : Pace → ℕ → Entry → Bool → ℕ → Board → Option ℕ
spot pace round e active n board =
    first_of (λ at. starts_within pace.time e n (round * pace.len + at) && fits board (slots_of e active) at) 0 pace.len

-- granted there; else missed if its window is over; else it waits
abbrev pub settlement : Pace → ℕ → Entry → Bool → ℕ → Option ℕ → List Settlement
settlement pace round e active n (Some at) = record { number = n; active = active; start = Some at } ∷ []
settlement pace round e active n None =
    if is_over pace round e n then record { number = n; active = active; start = None } ∷ [] else []

abbrev pub with_spot : Entry → Bool → Option ℕ → Board → Board
with_spot e active None board = board
with_spot e active (Some at) board = assign board at (slots_of e active) (owner_of e active)

-- what settling comes to
pub record SettledEntry : Type 0 where
  pub board : Board
  pub settlements : List Settlement

-- these occurrences of an entry, one after another, where the flow is active at some times and silent at others
unfoldable pub settle_each : Pace → ℕ → Entry → (ℕ → Bool) → List ℕ → Board → SettledEntry
settle_each pace round e speaks [] board = record { board = board; settlements = [] }
settle_each pace round e speaks (n ∷ ns) board =
    let active : Bool = speaks (ideal e n) in
    let found : Option ℕ = spot pace round e active n board in
    let rest : SettledEntry = settle_each pace round e speaks ns (with_spot e active found board) in
    record rest { settlements = settlement pace round e active n found ++ rest.settlements }

-- an entry of which these are settled, in a round: all of its occurrences that are due before the round ends, and come
unfoldable pub settle_entry : Pace → ℕ → Entry → (ℕ → Bool) → List ℕ → Board → SettledEntry
settle_entry pace round e speaks settled board =
    settle_each pace round e speaks (coming e speaks (end_of pace round) settled) board

-- the occurrences of an interval that don't come beside the first one, where the flow is silent
abbrev pub left_out : Entry → Bool → ℕ
left_out e active = if active then 0 else e.grants - 1

-- what is settled with one: itself, and those that a poll stands for
abbrev pub closed : Entry → Settlement → List ℕ
closed e m = m.number ∷ range_with_len (m.number + 1) (left_out e m.active)

-- An entry, with the numbers of its occurrences that are settled; whether its flow is active; and, where its activity is
-- detected, whether it was when the interval of the first unsettled one began, if that has begun.
pub record EntryState : Type 0 where
  pub entry : Entry
  pub settled : List ℕ
  pub active : Bool
  pub waiting : Option Bool

-- before round 0
abbrev pub opening_state : Entry → EntryState
opening_state e = record { entry = e; settled = []; active = true; waiting = None }

-- what a round's cut says of the flow
abbrev pub heard : List ℕ → EntryState → EntryState
heard cut state = record state { active = hears_of state.entry.silence state.active cut }

-- the kind of one interval is kept, and all others are of the kind that the flow is
abbrev pub kind_at : ℕ → Bool → Bool → ℕ → Bool
kind_at at kept active time = if time == at then kept else active

-- where an entry's activity is detected, and where it isn't
abbrev pub if_detected : {A : Type 0} → Option Silence → A → A → A
if_detected (Some s) it other = it
if_detected None it other = other

-- The flow as it is in this round, by what is kept. One interval of an entry at most began before a round and has something
-- unsettled, since the next one begins behind its windows: that of the first unsettled occurrence.
abbrev pub speaks_in : EntryState → ℕ → Bool
speaks_in state time =
    if_detected state.entry.silence (kind_at (ideal state.entry (length state.settled))
    (unwrap_or state.waiting state.active) state.active time) true

-- what is kept behind a round of the interval that begins at a time: of what kind it is, if it begins before the round's end;
-- else nothing, unless nothing was settled
abbrev pub waiting_at : ℕ → EntryState → ℕ → Option Bool
waiting_at end state time =
    if_detected state.entry.silence (if nat_lt time end then Some (speaks_in state time) else
    if time == ideal state.entry (length state.settled) then state.waiting else None) state.waiting

-- an entry in a round, by what is kept,
abbrev pub settle_state : Pace → ℕ → EntryState → Board → SettledEntry
settle_state pace round state board = settle_entry pace round state.entry (speaks_in state) state.settled board

-- and its state then
abbrev pub after_settling : ℕ → EntryState → List Settlement → EntryState
after_settling end state settlements =
    let settled : List ℕ = state.settled ++ flat_map (closed state.entry) settlements in
    record state { settled = settled; waiting = waiting_at end state (ideal state.entry (length settled)) }

-- how it is told: the interval, and the place among the grants of the interval
abbrev pub told_as : Entry → Settlement → Settled
told_as e m = tell e (m.number / e.grants) (m.number % e.grants) m.active m.start
  where
    tell : Entry → ℕ → ℕ → Bool → Option ℕ → Settled
    tell e i k active None = told.Missed e.kind e.id i k
    tell e i k active (Some start) = told.Granted e.kind e.id i k start (slots_of e active) (owner_of e active)
