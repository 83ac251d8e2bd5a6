-- What rounds settle is of the calendar's entries.
use Rattle.std.proofs.Common.{◌≡◌, ℕ, suc, ◌||◌, Bool, true, List, [], ◌∷◌, map, Option, Some, None, refl, arith}
use Rattle.std.specs.List.{All, AllByRecursion, Contains}
use Rattle.std.proofs.lemmas.List.Elements.{All-contains_itself}
use Rattle.us_flows.proofs.TurnLemmas.{all-append}
use Rattle.us_holes.specs.Boards.{Board}
use Rattle.us_calendar.specs.Entries.{Entry}
use Rattle.us_calendar.specs.Occurrences.{Pace}
use Rattle.us_calendar.specs.Settling.{Settlement, SettledEntry, EntryState, heard, opening_state, settle_state, told_as}
use Rattle.us_calendar.specs.Calendars.{Calendar, Ran, run_entries, after}
use Rattle.us_calendar.specs.Runs.{Round, rounds_on, grants, misses, IsOccurrence}
use Rattle.us_calendar.proofs.OnceLemmas.{own_name}

named : (e : Entry) (n : ℕ) (active : Bool) (start : Option ℕ) →
    (grants e n (told_as e (record { number = n; active = active; start = start }))
    || misses e n (told_as e (record { number = n; active = active; start = start }))) ≡ true
named e n active None = rw (own_name e n n refl) refl
named e n active (Some at) = rw (own_name e n n refl) refl

-- what is told of an entry's settlements
settlements_told : (es : List Entry) (e : Entry) (settlements : List Settlement) → Contains es e →
    AllByRecursion (IsOccurrence es) (map (told_as e) settlements)
settlements_told es e [] among = tt
settlements_told es e (m ∷ settlements) among = (
  record { entry = e; among = among; number = m.number; named = named e m.number m.active m.start },
  settlements_told es e settlements among,
)

-- the states of a calendar are of these entries
abbrev pub AreStatesOf : List Entry → List EntryState → Type 0
AreStatesOf es states = AllByRecursion (λ (state : EntryState). Contains es state.entry) states

run_told : (es : List Entry) (pace : Pace) (round : ℕ) (states : List EntryState) (board : Board) → AreStatesOf es states →
    AllByRecursion (IsOccurrence es) (run_entries pace round states board).settled
unfolding run_entries
run_told es pace round [] board of = tt
run_told es pace round (state ∷ states) board of =
    let one : SettledEntry = settle_state pace round state board in
    let rest : Ran = run_entries pace round states one.board in
    all-append (IsOccurrence es) (map (told_as state.entry) one.settlements) rest.settled
    (settlements_told es state.entry one.settlements of.0) (run_told es pace round states one.board of.1)

states_stay : (es : List Entry) (pace : Pace) (round : ℕ) (states : List EntryState) (board : Board) → AreStatesOf es states →
    AreStatesOf es (run_entries pace round states board).states
unfolding run_entries
states_stay es pace round [] board of = tt
states_stay es pace round (state ∷ states) board of =
    (of.0, states_stay es pace round states (settle_state pace round state board).board of.1)

states_heard : (es : List Entry) (cut : List ℕ) (states : List EntryState) → AreStatesOf es states →
    AreStatesOf es (map (heard cut) states)
states_heard es cut [] of = tt
states_heard es cut (state ∷ states) of = (of.0, states_heard es cut states of.1)

pub rounds_told : (es : List Entry) (calendar : Calendar) (cuts : List (List ℕ)) (boards : List Board) →
    AreStatesOf es calendar.states →
    AllByRecursion (λ (round : Round). AllByRecursion (IsOccurrence es) round.settled) (rounds_on calendar cuts boards)
rounds_told es calendar [] boards of = tt
rounds_told es calendar (cut ∷ cuts) [] of = tt
rounds_told es calendar (cut ∷ cuts) (board ∷ boards) of =
    let now = states_heard es cut calendar.states of in (
      run_told es calendar.pace calendar.next_round (map (heard cut) calendar.states) board now,
      rounds_told es (after calendar cut board) cuts boards
          (states_stay es calendar.pace calendar.next_round (map (heard cut) calendar.states) board now),
    )

-- before round 0

each_of : {X : Type 0} (P : X → Type 0) (xs : List X) → All P xs → AllByRecursion P xs
each_of P [] all = tt
each_of P (x ∷ xs) all = (all 0 x (omega arith), each_of P xs (λ k other below. all (suc k) other (omega (arith, below))))

states_of : (es some : List Entry) → AllByRecursion (Contains es) some →
    AreStatesOf es (map opening_state some)
states_of es [] all = tt
states_of es (e ∷ more) all = (all.0, states_of es more all.1)

pub opening_states : (es : List Entry) → AreStatesOf es (map opening_state es)
opening_states es = states_of es es (each_of (Contains es) es (All-contains_itself es))
