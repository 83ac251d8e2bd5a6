-- What a round keeps: what is granted starts inside the MAP and is one more assignment each, and all is counted.
use Rattle.std.proofs.Common.{◌≡◌, ℕ, ◌+◌, ◌*◌, ◌^◌, ◌<◌, ◌≤◌, List, [], ◌∷◌, ◌++◌, length, map, flat_map, take, drop, sum_by, Option, Some, None, IfSome, ◌&&◌, Bool, refl, ap, sym, ◌∙◌, inl, inr, subst, arith}
use Rattle.std.specs.List.{AllByRecursion}
use Rattle.std.proofs.lemmas.Bool.{cases_Bool}
use Rattle.std.proofs.lemmas.List.{length-append, length-map}
use Rattle.std.proofs.lemmas.List.Sums.{sum_by-cons, sum_by-append}
use Rattle.us_slots.specs.Times.{minislot_ticks}
use Rattle.us_holes.specs.Boards.{Board, fits}
use Rattle.us_holes.proofs.LawLemmas.{first_of-is}
use Rattle.us_flows.proofs.TurnLemmas.{all-append}
use Rattle.us_calendar.specs.Entries.{Entry, slots_of}
use Rattle.us_calendar.specs.Occurrences.{Pace, ideal, is_over, starts_within, coming, end_of}
use Rattle.us_calendar.specs.Settling.{Settlement, SettledEntry, EntryState, spot, with_spot, settle_each, settle_entry, settle_state, speaks_in, closed, heard, opening_state, after_settling, told_as}
use Rattle.us_calendar.specs.Calendars.{Calendar, Ran, run_entries, StartsInside, granted_in, one_if_granted}
use Rattle.us_calendar.specs.declared.settled.Settled.{Settled}
use Rattle.us_calendar.specs.Kept.{IsEntryState, IsKept, AreHeard}
use Rattle.us_calendar.specs.Agendas.{Agenda, IsAgenda}
use Rattle.us_calendar.proofs.SettleLemmas.{then_settle}
use Rattle.us_calendar.proofs.HeardLemmas.{heard_now, heard_then}
use Rattle.us_calendar.proofs.HearingLemmas.{agenda_heard}

-- of what one entry is granted and misses
record Told (len : ℕ) (e : Entry) (before : Board) (one : SettledEntry) : Type 0 where
  pub inside : AllByRecursion (StartsInside len) (map (told_as e) one.settlements)
  pub granted : granted_in (map (told_as e) one.settlements) + before.standing ≡ one.board.standing

spot_inside : (pace : Pace) (round : ℕ) (e : Entry) (active : Bool) (n : ℕ) (board : Board) (found : Option ℕ) →
    spot pace round e active n board ≡ found → IfSome found (λ at. at < pace.len)
spot_inside pace round e active n board None is = tt
spot_inside pace round e active n board (Some at) is =
    let first = (first_of-is
    (λ i. starts_within pace.time e n (round * pace.len + i) && fits board (slots_of e active) i) 0 pace.len at is).below in
    omega (arith, first)

one_told : (pace : Pace) (round : ℕ) (e : Entry) (active : Bool) (n : ℕ) (found : Option ℕ) (board : Board)
    (rest : Board → SettledEntry) → IfSome found (λ at. at < pace.len) →
    Told pace.len e (with_spot e active found board) (rest (with_spot e active found board)) →
    Told pace.len e board (then_settle pace round e active n found rest board)
one_told pace round e active n (Some at) board rest inside told =
    let first : Settled = told_as e (record { number = n; active = active; start = Some at }) in
    let others : List Settled = map (told_as e) (rest (with_spot e active (Some at) board)).settlements in
    let one = sum_by-cons one_if_granted first others in
    record { inside = (inside, told.inside); granted = omega (arith, one, told.granted) }
one_told pace round e active n None board rest inside told = elim (cases_Bool (is_over pace round e n)) [
  | inl t ↦
      let first : Settled = told_as e (record { number = n; active = active; start = None }) in
      let one = sum_by-cons one_if_granted first (map (told_as e) (rest board).settlements) in
      rw t (record { inside = (tt, told.inside); granted = omega (arith, one, told.granted) })
  | inr f ↦ rw f told
]

each_told : (pace : Pace) (round : ℕ) (e : Entry) (speaks : ℕ → Bool) (ns : List ℕ) (board : Board) →
    Told pace.len e board (settle_each pace round e speaks ns board)
unfolding settle_each
each_told pace round e speaks [] board = record { inside = tt; granted = omega arith }
each_told pace round e speaks (n ∷ ns) board =
    let active : Bool = speaks (ideal e n) in
    let found : Option ℕ = spot pace round e active n board in
    one_told pace round e active n found board (settle_each pace round e speaks ns)
    (spot_inside pace round e active n board found refl)
    (each_told pace round e speaks ns (with_spot e active found board))

state_told : (pace : Pace) (round : ℕ) (state : EntryState) (board : Board) →
    Told pace.len state.entry board (settle_state pace round state board)
unfolding settle_entry
state_told pace round state board =
    each_told pace round state.entry (speaks_in state)
    (coming state.entry (speaks_in state) (end_of pace round) state.settled) board

-- each settlement settles an occurrence at least
closed_some : (e : Entry) (settlements : List Settlement) → length settlements ≤ length (flat_map (closed e) settlements)
closed_some e [] = omega arith
closed_some e (m ∷ settlements) =
    let rest = closed_some e settlements in
    let long = length-append (closed e m) (flat_map (closed e) settlements) in
    omega (arith, rest, long)

abbrev pub settled_by : List EntryState → ℕ
settled_by states = sum_by (λ state. length state.settled) states

-- hearing settles nothing
pub settled_heard : (cut : List ℕ) (states : List EntryState) → settled_by (map (heard cut) states) ≡ settled_by states
settled_heard cut [] = refl
settled_heard cut (state ∷ states) =
    let rest = settled_heard cut states in
    let now = sum_by-cons (λ r. length r.settled) (heard cut state) (map (heard cut) states) in
    let before = sum_by-cons (λ r. length r.settled) state states in
    omega (arith, rest, now, before)

-- of a whole round
pub record Ended (len : ℕ) (states : List EntryState) (before : Board) (ran : Ran) : Type 0 where
  pub inside : AllByRecursion (StartsInside len) ran.settled
  pub granted : granted_in ran.settled + before.standing ≡ ran.board.standing
  pub counts : length ran.settled + settled_by states ≤ settled_by ran.states
  pub many : length ran.states ≡ length states

pub run_ended : (pace : Pace) (round : ℕ) (states : List EntryState) (board : Board) →
    Ended pace.len states board (run_entries pace round states board)
unfolding run_entries
run_ended pace round [] board = record { inside = tt; granted = omega arith; counts = omega arith; many = refl }
run_ended pace round (state ∷ states) board =
    let one : SettledEntry = settle_state pace round state board in
    let told : List Settled = map (told_as state.entry) one.settlements in
    let rest : Ran = run_entries pace round states one.board in
    let here = state_told pace round state board in
    let others = run_ended pace round states one.board in
    let sum = sum_by-append one_if_granted told rest.settled in
    let long = length-append told rest.settled in
    let settlements = length-map one.settlements (told_as state.entry) in
    let numbers = closed_some state.entry one.settlements in
    let grown = length-append state.settled (flat_map (closed state.entry) one.settlements) in
    let before = sum_by-cons (λ r. length r.settled) state states in
    let after = sum_by-cons (λ r. length r.settled) (after_settling (end_of pace round) state one.settlements) rest.states in
    record {
      inside = all-append (StartsInside pace.len) told rest.settled here.inside others.inside;
      granted = omega (arith, sum, here.granted, others.granted);
      counts = omega (arith, long, settlements, numbers, grown, before, after, others.counts);
      many = omega (arith, others.many);
    }

settled_most : (states : List EntryState) → AllByRecursion IsEntryState states → settled_by states ≤ length states * 2 ^ 38
settled_most [] all = omega arith
settled_most (state ∷ states) all =
    let few = all.0.few in
    let rest = settled_most states all.1 in
    let one = sum_by-cons (λ r. length r.settled) state states in
    omega (arith, few, rest, one)

-- a list that was lent is the new one of its length
pub written : {A : Type 0} → (old new : List A) → length new ≡ length old → take (length old) (new ++ drop (length new) old) ≡ new
written [] [] e = refl
written [] (x ∷ xs) e = absurd (omega (arith, e))
written (o ∷ os) [] e = absurd (omega (arith, e))
written (o ∷ os) (x ∷ xs) e = ap (λ more. x ∷ more) (written os xs (omega (arith, e)))

pub lent : {A : Type 0} → (old new : List A) (len : ℕ) → len ≡ length old → length new ≡ length old →
    take len (new ++ drop (length new) old) ≡ new
lent old new len is many = ap (λ n. take n (new ++ drop (length new) old)) is ∙ written old new many

-- and so the calendar keeps what it owes
pub run_kept : (calendar : Calendar) (now : List EntryState) (next len from to : ℕ) (board : Board)
    (agenda new : Agenda) → IsKept calendar agenda from to →
    now ≡ (run_entries calendar.pace calendar.next_round calendar.states board).states → AllByRecursion IsEntryState now →
    len ≡ length calendar.states → IsAgenda calendar.pace next 0 now new →
    IsKept (record {
      pace = calendar.pace;
      next_round = next;
      states = take len (now ++ drop (length now) calendar.states);
    }) new from to
run_kept calendar now next len from to board agenda new kept now_is states len_is notes =
    let ended = run_ended calendar.pace calendar.next_round calendar.states board in
    let many : length now ≡ length calendar.states = ap length now_is ∙ ended.many in
    let most = settled_most now states in
    let few : length now ≤ 1280 = omega (arith, kept.few, many) in
    let back = lent calendar.states now len len_is many in
    let still = subst (λ ss. AreHeard ss from to) (sym now_is)
    (heard_then calendar.pace calendar.next_round calendar.states board from to kept.heard) in
    subst (λ rs. IsKept (record { pace = calendar.pace; next_round = next; states = rs }) new from to) (sym back) (record {
      known = record { len = kept.known.len; ticks = kept.known.ticks; settled = omega (arith, most, few) };
      few = few;
      states = states;
      heard = still;
      notes = notes;
    })

-- also when it hears
pub hear_kept : (calendar : Calendar) (cut : List ℕ) (now : List EntryState) (len from to : ℕ) (agenda : Agenda) →
    IsKept calendar agenda from to → now ≡ map (heard cut) calendar.states → AllByRecursion IsEntryState now →
    len ≡ length calendar.states →
    IsKept (record {
      pace = calendar.pace;
      next_round = calendar.next_round;
      states = take len (now ++ drop (length now) calendar.states);
    }) agenda from to
hear_kept calendar cut now len from to agenda kept now_is states len_is =
    let many : length now ≡ length calendar.states = ap length now_is ∙ length-map calendar.states (heard cut) in
    let back = lent calendar.states now len len_is many in
    let settled = ap settled_by now_is ∙ settled_heard cut calendar.states in
    let notes = agenda_heard cut calendar.pace calendar.next_round 0 calendar.states agenda kept.notes in
    subst (λ rs. IsKept (record { pace = calendar.pace; next_round = calendar.next_round; states = rs }) agenda from to)
    (sym back) (record {
      known = record { len = kept.known.len; ticks = kept.known.ticks; settled = omega (arith, settled, kept.known.settled) };
      few = omega (arith, kept.few, many);
      states = states;
      heard = subst (λ ss. AreHeard ss from to) (sym now_is) (heard_now cut calendar.states from to kept.heard);
      notes = subst (λ ss. IsAgenda calendar.pace calendar.next_round 0 ss agenda) (sym now_is) notes;
    })

-- before round 0 too
pub opening_kept : (pace : Pace) (states : List EntryState) (es : List Entry) (agenda : Agenda) (from to : ℕ) →
    1 ≤ pace.len → pace.len * minislot_ticks pace.time ≤ 4096 → states ≡ map opening_state es → length es ≤ 1280 →
    AllByRecursion IsEntryState states → AreHeard states from to → IsAgenda pace 0 0 states agenda →
    IsKept (record { pace = pace; next_round = agenda.round; states = states }) agenda from to
opening_kept pace states es agenda from to some ticks states_are few all are notes =
    let many : length states ≡ length es = ap length states_are ∙ length-map es opening_state in
    let most = settled_most states all in
    record {
      known = record { len = some; ticks = ticks; settled = omega (arith, most, many, few) };
      few = omega (arith, many, few);
      states = all;
      heard = are;
      notes = subst (λ n. IsAgenda pace n 0 states agenda) (sym notes.now) notes;
    }
