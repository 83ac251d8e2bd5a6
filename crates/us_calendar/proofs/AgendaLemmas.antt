-- What is due in a round has its turn, in the order of entries, and nothing else needs one.
use Rattle.std.proofs.Common.{◌≡◌, ◌≢◌, ℕ, zero, suc, ◌+◌, ◌-◌, ◌<◌, ◌≤◌, ◌⊎◌, ◌==◌, true, false, List, [], ◌∷◌, ◌++◌, length, map, max, drop, Some, None, slice_get, get_or, refl, ap, ap₂, subst, sym, ◌∙◌, inl, inr, append_assoc, eq-eqb, ne_eqb, lt-ltb, le-ltb, option_map, unwrap_or, add-one, drop-cons, arith}
use Rattle.std.specs.List.{AllByRecursion}
use Rattle.std.proofs.Math.ListN.{set, length-set}
use Rattle.std.proofs.lemmas.List.{append-nil, length-append}
use Rattle.std.proofs.lemmas.Bool.{cases_eq, cases_lt, eqb-true}
use Rattle.us_holes.specs.Boards.{Board}
use Rattle.us_calendar.specs.Entries.{Entry}
use Rattle.us_calendar.specs.Occurrences.{Pace, end_of}
use Rattle.us_calendar.specs.Settling.{EntryState, SettledEntry, settle_state, after_settling, told_as}
use Rattle.us_calendar.specs.Calendars.{Ran, run_entries}
use Rattle.us_calendar.specs.declared.settled.Settled.{Settled}
use Rattle.us_calendar.specs.Kept.{IsEntryState, IsQuiet}
use Rattle.us_calendar.specs.Agendas.{Agenda, IsAgenda, IsChanged, IsFirst, IsNone, NoneBefore, due_at, has_turn, is_noted, next_turn}
use Rattle.us_calendar.proofs.EntryStateLemmas.{quiet_before}
use Rattle.us_calendar.proofs.RunLemmas.{run_from, run_past, skip_to, run_step, the_some}

pub set_same : (states : List EntryState) (p : ℕ) (state : EntryState) → p < length states → slice_get (set states p state) p ≡ Some state
set_same [] p state inside = absurd (omega (arith, inside))
set_same (first ∷ states) zero state inside = refl
set_same (first ∷ states) (suc p) state inside = set_same states p state (omega (arith, inside))

pub set_other : (states : List EntryState) (p q : ℕ) (state : EntryState) → p ≢ q → slice_get (set states p state) q ≡ slice_get states q
set_other [] p q state other = refl
set_other (first ∷ states) zero zero state other = absurd (other refl)
set_other (first ∷ states) zero (suc q) state other = refl
set_other (first ∷ states) (suc p) zero state other = refl
set_other (first ∷ states) (suc p) (suc q) state other = set_other states p q state (λ e. other (ap suc e))

pub set_known : (states : List EntryState) (p : ℕ) (state : EntryState) → AllByRecursion IsEntryState states → IsEntryState state →
    AllByRecursion IsEntryState (set states p state)
set_known [] p state all is = tt
set_known (first ∷ states) zero state all is = (is, all.1)
set_known (first ∷ states) (suc p) state all is = (all.0, set_known states p state all.1 is)

known_at : (states : List EntryState) (p : ℕ) (state : EntryState) → AllByRecursion IsEntryState states →
    slice_get states p ≡ Some state → IsEntryState state
known_at [] p state all is = let never : None ≡ Some state = is in absurd cc
known_at (first ∷ states) zero state all is = subst IsEntryState (the_some first state is) all.0
known_at (first ∷ states) (suc p) state all is = known_at states p state all.1 is

pub within : (states : List EntryState) (p : ℕ) (state : EntryState) → slice_get states p ≡ Some state → p < length states
within [] p state is = let never : None ≡ Some state = is in absurd cc
within (first ∷ states) zero state is = omega arith
within (first ∷ states) (suc p) state is = omega (arith, within states p state is)

-- at each place there is an entry or none
at_place : (states : List EntryState) (p : ℕ) →
    ((state : EntryState) × (slice_get states p ≡ Some state)) ⊎ (slice_get states p ≡ None)
at_place [] p = inr refl
at_place (first ∷ states) zero = inl (first, refl)
at_place (first ∷ states) (suc p) = at_place states p

-- The next turn of an entry.
module _ (pace : Pace) (round from place : ℕ) (state : EntryState) where
  next_had : place < from → next_turn pace round from place state ≡ max (round + 1) (due_at pace state)
  next_had had = rw (lt-ltb place from had) refl

  next_yet : from ≤ place → next_turn pace round from place state ≡ max round (due_at pace state)
  next_yet yet = rw (le-ltb place from yet) refl

module _ (pace : Pace) (round from : ℕ) (states : List EntryState) (at place : ℕ) where
  turn_is : (state : EntryState) → slice_get states place ≡ Some state →
      has_turn pace round from states at place ≡ (at == next_turn pace round from place state)
  turn_is state is = ap (λ found. unwrap_or (option_map (λ s. at == next_turn pace round from place s) found) false) is

  turn_none : slice_get states place ≡ None → has_turn pace round from states at place ≡ false
  turn_none is = ap (λ found. unwrap_or (option_map (λ s. at == next_turn pace round from place s) found) false) is

  turn_of : has_turn pace round from states at place ≡ true →
      (state : EntryState) × (slice_get states place ≡ Some state) × (at ≡ next_turn pace round from place state)
  turn_of is = elim (at_place states place) [
    | inl some ↦
        (some.0, some.1, eqb-true at (next_turn pace round from place some.0) (sym (turn_is some.0 some.1) ∙ is))
    | inr none ↦ let never : true ≡ false = sym is ∙ turn_none none in absurd cc
  ]

  not_turn : (state : EntryState) → slice_get states place ≡ Some state → has_turn pace round from states at place ≡ false →
      at ≢ next_turn pace round from place state
  not_turn state is none e =
      let never : true ≡ false = sym (turn_is state is ∙ eq-eqb at (next_turn pace round from place state) e) ∙ none in cc

-- how far a round has come, from what it began with
pub record Going (pace : Pace) (round : ℕ) (old_states : List EntryState) (old_board : Board) (old_told : List Settled)
    (from : ℕ) (states : List EntryState) (board : Board) (told : List Settled) (agenda : Agenda) : Type 0 where
  pub same_states : (run_from pace round from states board).states ≡ (run_entries pace round old_states old_board).states
  pub same_board : (run_from pace round from states board).board ≡ (run_entries pace round old_states old_board).board
  pub same_told :
      told ++ (run_from pace round from states board).settled ≡ old_told ++ (run_entries pace round old_states old_board).settled
  pub notes : IsAgenda pace round from states agenda
  pub len : length board.cells ≡ length old_board.cells
  pub known : AllByRecursion IsEntryState states

pub going-starts : (pace : Pace) (round : ℕ) (states : List EntryState) (board : Board) (told : List Settled)
    (agenda : Agenda) → IsAgenda pace round 0 states agenda → AllByRecursion IsEntryState states →
    Going pace round states board told 0 states board told agenda
going-starts pace round states board told agenda is known = record {
  same_states = refl;
  same_board = refl;
  same_told = refl;
  notes = is;
  len = refl;
  known = known;
}

module _ (pace : Pace) (round : ℕ) (old_states : List EntryState) (old_board : Board) (old_told : List Settled) (from : ℕ)
    (states : List EntryState) (board : Board) (told : List Settled) (agenda : Agenda)
    (g : Going pace round old_states old_board old_told from states board told agenda) where
  -- an entry that isn't noted for the round has nothing due in it
  later_at : (i : ℕ) (state : EntryState) → from ≤ i → slice_get states i ≡ Some state → is_noted agenda round i ≡ false →
      round < due_at pace state
  later_at i state yet is none =
      let next = next_yet pace round from i state yet in
      let apart = not_turn pace round from states round i state is (sym (g.notes.noted round i (omega arith)) ∙ none) in
      elim (cases_lt round (due_at pace state)) [
        | inl later ↦ later
        | inr due ↦ absurd (apart (omega (arith, next, due)))
      ]

  quiet_at : (i : ℕ) (state : EntryState) → from ≤ i → slice_get states i ≡ Some state → is_noted agenda round i ≡ false →
      IsQuiet pace round state
  quiet_at i state yet is none =
      quiet_before pace state round (known_at states i state g.known is) (later_at i state yet is none)

  -- those that have had their turn aren't noted for the round any more
  pub none_before : NoneBefore (is_noted agenda agenda.round) from
  none_before p before =
      ap (λ r. is_noted agenda r p) g.notes.now ∙ g.notes.noted round p (omega arith) ∙ elim (at_place states p) [
        | inr none ↦ turn_none pace round from states round p none
        | inl some ↦
            let next = next_had pace round from p some.0 before in
            turn_is pace round from states round p some.0 some.1 ∙
            ne_eqb round (next_turn pace round from p some.0) (λ e. omega (arith, e, next))
      ]

  -- Where nothing more is noted for the round, it is over:
  module _ (over : IsNone (is_noted agenda agenda.round)) where
    none : IsNone (is_noted agenda round)
    none i = ap (λ r. is_noted agenda r i) (sym g.notes.now) ∙ over i

    nothing_left : run_from pace round from states board ≡ record { states = states; board = board; settled = [] }
    nothing_left = elim (cases_lt from (length states)) [
      | inr past ↦ run_past pace round from states board past
      | inl more ↦
          skip_to pace round (length states - from) from states board (omega arith)
          (λ i state low high is. quiet_at i state low is (none i)) ∙
          run_past pace round (from + (length states - from)) states board (omega arith)
    ]

    pub ends_states : states ≡ (run_entries pace round old_states old_board).states
    ends_states = sym (ap (λ ran. ran.states) nothing_left) ∙ g.same_states

    pub ends_board : board ≡ (run_entries pace round old_states old_board).board
    ends_board = sym (ap (λ ran. ran.board) nothing_left) ∙ g.same_board

    pub ends_told : told ≡ old_told ++ (run_entries pace round old_states old_board).settled
    ends_told = sym (append-nil told) ∙ sym (ap (λ ran. told ++ ran.settled) nothing_left) ∙ g.same_told

    -- and from the next one on all are noted as before
    next_same : (p : ℕ) (state : EntryState) → slice_get states p ≡ Some state →
        next_turn pace round from p state ≡ next_turn pace (round + 1) 0 p state
    next_same p state is =
        let then = next_yet pace (round + 1) 0 p state (omega arith) in
        elim (cases_lt p from) [
          | inl had ↦ next_had pace round from p state had ∙ sym then
          | inr waits ↦
              let later = later_at p state waits is (none p) in
              let next = next_yet pace round from p state waits in
              omega (arith, next, then, later)
        ]

    turn_same : (at p : ℕ) → has_turn pace round from states at p ≡ has_turn pace (round + 1) 0 states at p
    turn_same at p = elim (at_place states p) [
      | inr none ↦
          turn_none pace round from states at p none ∙ sym (turn_none pace (round + 1) 0 states at p none)
      | inl some ↦
          turn_is pace round from states at p some.0 some.1 ∙ ap (λ n. at == n) (next_same p some.0 some.1) ∙
          sym (turn_is pace (round + 1) 0 states at p some.0 some.1)
    ]

    pub ends_agenda : (new : Agenda) → new.round ≡ agenda.round + 1 → length new.near ≡ length agenda.near →
        ((at p : ℕ) → new.round ≤ at → is_noted new at p ≡ is_noted agenda at p) → IsAgenda pace (round + 1) 0 states new
    ends_agenda new next room same =
        let now = g.notes.now in
        record {
          now = omega (arith, next, now);
          few = omega (arith, room, g.notes.few);
          noted = λ at p low. same at p (omega (arith, low, next, now)) ∙ g.notes.noted at p (omega (arith, low)) ∙ turn_same at p;
        }

  -- else the first that is noted has its turn:
  module _ (place : ℕ) (first : IsFirst (is_noted agenda agenda.round) place) where
    none_earlier : (q : ℕ) → q < place → is_noted agenda round q ≡ false
    none_earlier q before = ap (λ r. is_noted agenda r q) (sym g.notes.now) ∙ first.before q before

    turn : (state : EntryState) × (slice_get states place ≡ Some state) × (round ≡ next_turn pace round from place state)
    turn =
        turn_of pace round from states round place
        (sym (g.notes.noted round place (omega arith)) ∙ ap (λ r. is_noted agenda r place) (sym g.notes.now) ∙ first.there)

    pub place_within : place < length states
    place_within = within states place turn.0 turn.1

    pub yet : from ≤ place
    yet = elim (cases_lt place from) [
      | inr is ↦ is
      | inl had ↦ let next = next_had pace round from place turn.0 had in absurd (omega (arith, turn.2, next))
    ]

    module _ (state state_now : EntryState) (now : Board) (told_now : List Settled) (at : ℕ) (taken new : Agenda)
        (state_is : slice_get states place ≡ Some state)
        (state_now_is : state_now ≡ after_settling (end_of pace round) state (settle_state pace round state board).settlements)
        (now_is : now ≡ (settle_state pace round state board).board)
        (told_is : told_now ≡ told ++ map (told_as state.entry) (settle_state pace round state board).settlements)
        (at_is : at ≡ max (round + 1) (due_at pace state_now))
        (take : IsChanged (is_noted agenda) (is_noted taken) agenda.round place false)
        (put : IsChanged (is_noted taken) (is_noted new) at place true) where
      step : run_from pace round from states board ≡
          (let one : SettledEntry = settle_state pace round state board in
          let rest : Ran = run_from pace round (suc place) (set states place (after_settling (end_of pace round) state one.settlements)) one.board in
          record {
            states = rest.states;
            board = rest.board;
            settled = map (told_as state.entry) one.settlements ++ rest.settled;
          })
      step =
          let there : from + (place - from) ≡ place = omega (arith, yet) in
          skip_to pace round (place - from) from states board (omega (arith, place_within))
          (λ i other low below is. quiet_at i other low is (none_earlier i (omega (arith, below, yet)))) ∙
          ap (λ p. run_from pace round p states board) there ∙ run_step pace round place states state board state_is

      same : run_from pace round (place + 1) (set states place state_now) now ≡
          run_from pace round (suc place) (set states place (after_settling (end_of pace round) state (settle_state pace round state board).settlements))
          (settle_state pace round state board).board
      same =
          let one_more : place + 1 ≡ suc place = omega arith in
          ap (λ p. run_from pace round p (set states place state_now) now) one_more ∙
          ap₂ (λ r b. run_from pace round (suc place) (set states place r) b) state_now_is now_is

      -- it is noted for its next turn alone,
      noted_here : (r : ℕ) → round ≤ r → is_noted new r place ≡ (r == at)
      noted_here r low = elim (cases_eq r at) [
        | inl same ↦ ap (λ n. is_noted new n place) same ∙ put.here ∙ sym (eq-eqb r at same)
        | inr other ↦ put.others r place (λ e _. other e) ∙ elim (cases_eq r round) [
          | inl here ↦
              ap (λ n. is_noted taken n place) (here ∙ sym g.notes.now) ∙ take.here ∙ sym (ne_eqb r at other)
          | inr later ↦
              take.others r place (λ e _. later (e ∙ g.notes.now)) ∙ g.notes.noted r place low ∙
              turn_is pace round from states r place turn.0 turn.1 ∙
              ne_eqb r (next_turn pace round from place turn.0) (λ e. later (e ∙ sym turn.2)) ∙ sym (ne_eqb r at other)
        ]
      ]

      turn_here : (r : ℕ) → has_turn pace round (place + 1) (set states place state_now) r place ≡ (r == at)
      turn_here r =
          turn_is pace round (place + 1) (set states place state_now) r place state_now
          (set_same states place state_now place_within) ∙
          ap (λ n. r == n) (next_had pace round (place + 1) place state_now (omega arith) ∙ sym at_is)

      -- and all others as they were
      noted_there : (r q : ℕ) → q ≢ place → is_noted new r q ≡ is_noted agenda r q
      noted_there r q other = put.others r q (λ _ e. other e) ∙ take.others r q (λ _ e. other e)

      next_there : (q : ℕ) (one : EntryState) → q ≢ place → slice_get states q ≡ Some one →
          next_turn pace round from q one ≡ next_turn pace round (place + 1) q one
      next_there q one other is = elim (cases_lt q place) [
        | inr behind ↦
            next_yet pace round from q one (omega (arith, behind, yet)) ∙
            sym (next_yet pace round (place + 1) q one (omega (arith, behind, other)))
        | inl before ↦
            let then = next_had pace round (place + 1) q one (omega (arith, before)) in
            elim (cases_lt q from) [
              | inl had ↦ next_had pace round from q one had ∙ sym then
              | inr waits ↦
                  let later = later_at q one waits is (none_earlier q before) in
                  let next = next_yet pace round from q one waits in
                  omega (arith, next, then, later)
            ]
      ]

      turn_there : (r q : ℕ) → q ≢ place →
          has_turn pace round from states r q ≡ has_turn pace round (place + 1) (set states place state_now) r q
      turn_there r q other =
          let same_one = set_other states place q state_now (λ e. other (sym e)) in
          elim (at_place states q) [
            | inr none ↦
                turn_none pace round from states r q none ∙
                sym (turn_none pace round (place + 1) (set states place state_now) r q (same_one ∙ none))
            | inl some ↦
                turn_is pace round from states r q some.0 some.1 ∙
                ap (λ n. r == n) (next_there q some.0 other some.1) ∙
                sym (turn_is pace round (place + 1) (set states place state_now) r q some.0 (same_one ∙ some.1))
          ]

      noted_now : (r q : ℕ) → round ≤ r →
          is_noted new r q ≡ has_turn pace round (place + 1) (set states place state_now) r q
      noted_now r q low = elim (cases_eq q place) [
        | inl here ↦
            ap (is_noted new r) here ∙ noted_here r low ∙ sym (turn_here r) ∙
            ap (has_turn pace round (place + 1) (set states place state_now) r) (sym here)
        | inr other ↦ noted_there r q other ∙ g.notes.noted r q low ∙ turn_there r q other
      ]

      pub going-step : new.round ≡ agenda.round → length new.near ≡ length agenda.near →
          length now.cells ≡ length board.cells → IsEntryState state_now →
          Going pace round old_states old_board old_told (place + 1) (set states place state_now) now told_now new
      going-step round_is room len is_state =
          let settlements = map (told_as state.entry) (settle_state pace round state board).settlements in
          let rest : Ran =
          run_from pace round (suc place) (set states place (after_settling (end_of pace round) state (settle_state pace round state board).settlements))
          (settle_state pace round state board).board in
          record {
            same_states = ap (λ ran. ran.states) same ∙ sym (ap (λ ran. ran.states) step) ∙ g.same_states;
            same_board = ap (λ ran. ran.board) same ∙ sym (ap (λ ran. ran.board) step) ∙ g.same_board;
            same_told =
                ap (λ ran. told_now ++ ran.settled) same ∙ ap (λ ts. ts ++ rest.settled) told_is ∙
                append_assoc told settlements rest.settled ∙ sym (ap (λ ran. told ++ ran.settled) step) ∙ g.same_told;
            notes = record {
              now = round_is ∙ g.notes.now;
              few = omega (arith, length-set states place state_now, room, g.notes.few);
              noted = noted_now;
            };
            len = len ∙ g.len;
            known = set_known states place state_now g.known is_state;
          }

-- Before round 0 nothing is noted of no entries,
pub none_noted : (pace : Pace) (agenda : Agenda) → agenda.round ≡ 0 → ((round : ℕ) → IsNone (is_noted agenda round)) →
    IsAgenda pace 0 0 [] agenda
none_noted pace agenda now none =
    record { now = now; few = omega arith; noted = λ at p _. none at p ∙ sym (turn_none pace 0 0 [] at p refl) }

-- and one more entry is noted.
pushed_here : (states : List EntryState) (state : EntryState) → slice_get (states ++ state ∷ []) (length states) ≡ Some state
pushed_here [] state = refl
pushed_here (first ∷ states) state = pushed_here states state

pushed_other : (states : List EntryState) (state : EntryState) (p : ℕ) → p ≢ length states →
    slice_get (states ++ state ∷ []) p ≡ slice_get states p
pushed_other [] state zero other = absurd (other refl)
pushed_other [] state (suc p) other = refl
pushed_other (first ∷ states) state zero other = refl
pushed_other (first ∷ states) state (suc p) other = pushed_other states state p (λ e. other (ap suc e))

past_last : (states : List EntryState) → slice_get states (length states) ≡ None
past_last [] = refl
past_last (first ∷ states) = past_last states

module _ (pace : Pace) (states : List EntryState) (state : EntryState) (at : ℕ) (agenda new : Agenda)
    (is : IsAgenda pace 0 0 states agenda) (at_is : at ≡ max 0 (due_at pace state))
    (put : IsChanged (is_noted agenda) (is_noted new) at (length states) true) where
  last_noted : (r : ℕ) → is_noted new r (length states) ≡ (r == at)
  last_noted r = elim (cases_eq r at) [
    | inl same ↦ ap (λ n. is_noted new n (length states)) same ∙ put.here ∙ sym (eq-eqb r at same)
    | inr other ↦
        put.others r (length states) (λ e _. other e) ∙ is.noted r (length states) (omega arith) ∙
        turn_none pace 0 0 states r (length states) (past_last states) ∙ sym (ne_eqb r at other)
  ]

  last_turn : (r : ℕ) → has_turn pace 0 0 (states ++ state ∷ []) r (length states) ≡ (r == at)
  last_turn r =
      turn_is pace 0 0 (states ++ state ∷ []) r (length states) state (pushed_here states state) ∙
      ap (λ n. r == n) (next_yet pace 0 0 (length states) state (omega arith) ∙ sym at_is)

  other_noted : (r q : ℕ) → q ≢ length states → is_noted new r q ≡ has_turn pace 0 0 (states ++ state ∷ []) r q
  other_noted r q other =
      put.others r q (λ _ e. other e) ∙ is.noted r q (omega arith) ∙
      ap (λ found. unwrap_or (option_map (λ s. r == next_turn pace 0 0 q s) found) false)
      (sym (pushed_other states state q other))

  pub one_noted : new.round ≡ agenda.round → length states < length new.near →
      IsAgenda pace 0 0 (states ++ state ∷ []) new
  one_noted now room = record {
    now = now ∙ is.now;
    few = omega (arith, room, length-append states (state ∷ []));
    noted = λ r q _. elim (cases_eq q (length states)) [
      | inl here ↦
          ap (is_noted new r) here ∙ last_noted r ∙ sym (last_turn r) ∙
          ap (has_turn pace 0 0 (states ++ state ∷ []) r) (sym here)
      | inr other ↦ other_noted r q other
    ];
  }

pub states_more : (f : Entry → EntryState) (es : List Entry) (i : ℕ) (e : Entry) (state : EntryState) (xs ys all : List EntryState) → i < length es →
    e ≡ get_or es i e → state ≡ f e → ys ≡ xs ++ state ∷ [] → xs ++ map f (drop i es) ≡ all →
    ys ++ map f (drop (i + 1) es) ≡ all
states_more f es i e state xs ys all inside is state_is put so_far =
    let next : drop i es ≡ get_or es i e ∷ drop (i + 1) es = rw add-one (drop-cons es i e inside) in
    ap (λ rs. rs ++ map f (drop (i + 1) es)) put ∙ append_assoc xs (state ∷ []) (map f (drop (i + 1) es)) ∙
    ap (λ r. xs ++ (r ∷ map f (drop (i + 1) es))) (state_is ∙ ap f is) ∙ ap (λ ds. xs ++ map f ds) (sym next) ∙ so_far
