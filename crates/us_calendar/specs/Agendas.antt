-- What is noted of the entries of a calendar: the round in which each has its next turn. An entry goes by its place among
-- the entries. The next 64 rounds are near: of each 64 places there is a word for each of them, with a bit for each place.
-- All that is noted for later rounds stands in an ordered set of rounds and places.
use Rattle.std.specs.Prelude.{◌≡◌, ℕ, ◌+◌, ◌*◌, ◌/◌, ◌%◌, ◌^◌, ◌-◌, ◌==◌, ◌<◌, ◌≤◌, nat_lt, max, if◌then◌else◌, Bool, true, false, List, length, option_map, unwrap_or, slice_get, slice_index}
use Rattle.std.specs.Int.{bit_at}
use Rattle.std.specs.Ordering.{nat_cmp, ordering_then}
use Rattle.std.specs.declared.cmp.Ordering.{Ordering}
use Rattle.std.specs.BTreeSet.{BTreeSet, contains}
use Rattle.us_calendar.specs.Occurrences.{Pace, ideal, end_of}
use Rattle.us_calendar.specs.Settling.{EntryState}

-- how many rounds are near: as many as a word has bits
abbrev pub near_rounds : ℕ
near_rounds = 64

-- whether the bit of a place is set in the word of a round
abbrev pub is_near : List ℕ → ℕ → ℕ → Bool
is_near words round place = bit_at (slice_index words (place / 64 * near_rounds + round % near_rounds)) (place % 64) == 1

-- earlier rounds come first, and in a round places
abbrev pub note_cmp : ℕ × ℕ → ℕ × ℕ → Ordering
note_cmp one other = ordering_then (nat_cmp one.0 other.0) (nat_cmp one.1 other.1)

abbrev pub is_far : BTreeSet (ℕ × ℕ) → ℕ → ℕ → Bool
is_far notes round place = contains note_cmp notes (round, place)

-- the number of the next round, with what is noted for it and for later ones
pub record Agenda : Type 0 where
  pub round : ℕ
  pub near : List ℕ
  pub far : BTreeSet (ℕ × ℕ)

-- whether the entry at a place is noted for a round, the next one or a later one
abbrev pub is_noted : Agenda → ℕ → ℕ → Bool
is_noted agenda round place =
    if nat_lt round agenda.round then false else if nat_lt round (agenda.round + near_rounds)
    then is_near agenda.near round place else is_far agenda.far round place

-- what is far isn't near, and is of places that have bits
abbrev pub IsLate : BTreeSet (ℕ × ℕ) → ℕ → Type 0
IsLate far from = (round place : ℕ) → is_far far round place ≡ true → from ≤ round

abbrev pub AreInside : BTreeSet (ℕ × ℕ) → ℕ → Type 0
AreInside far places = (round place : ℕ) → is_far far round place ≡ true → place < places

-- no round of the set is before its first one, which is the last that there is where nothing is noted
pub record IsFirstRound (far : BTreeSet (ℕ × ℕ)) (first : ℕ) : Type 0 where
  pub least : IsLate far first
  pub there : first < 2 ^ 32 - 1 → (place : ℕ) × (is_far far first place ≡ true)

-- what is noted for one round is changed at one place,
pub record IsChanged (old new : ℕ → ℕ → Bool) (round place : ℕ) (noted : Bool) : Type 0 where
  pub here : new round place ≡ noted
  pub others : (other_round other : ℕ) → (other_round ≡ round → other ≡ place → ⊥) → new other_round other ≡ old other_round other

-- or for all rounds that share their words with it
pub record IsBitChanged (old : List ℕ) (round place : ℕ) (noted : Bool) (new : List ℕ) : Type 0 where
  pub here : (same : ℕ) → same % near_rounds ≡ round % near_rounds → is_near new same place ≡ noted
  pub others : (other_round other : ℕ) → (other_round % near_rounds ≡ round % near_rounds → other ≡ place → ⊥) →
      is_near new other_round other ≡ is_near old other_round other
  pub many : length new ≡ length old

-- what was far for a round is near, and nothing else is changed
pub record IsBrought (near : List ℕ) (far : BTreeSet (ℕ × ℕ)) (round : ℕ) (new_near : List ℕ) (new_far : BTreeSet (ℕ × ℕ)) :
    Type 0 where
  pub here : (place : ℕ) → is_near new_near round place ≡ is_far far round place
  pub others : (other place : ℕ) → (other % near_rounds ≡ round % near_rounds → ⊥) →
      is_near new_near other place ≡ is_near near other place
  pub far_others : (other place : ℕ) → (other ≡ round → ⊥) → is_far new_far other place ≡ is_far far other place
  pub many : length new_near ≡ length near

-- the first word of a round from one on that isn't 0, or the first that isn't there
pub record IsFirstWord (words : List ℕ) (from first : ℕ) : Type 0 where
  pub behind : from ≤ first
  pub same : first % near_rounds ≡ from % near_rounds
  pub some : first < length words → 0 < slice_index words first
  pub none : (word : ℕ) → from ≤ word → word < first → word % near_rounds ≡ from % near_rounds →
      slice_index words word ≡ 0

-- the lowest bit of a number that is set
pub record IsLowest (bits at : ℕ) : Type 0 where
  pub inside : at < 64
  pub set : bit_at bits at ≡ 1
  pub below : (lower : ℕ) → lower < at → bit_at bits lower ≡ 0

-- nothing is noted before a place, or nowhere
abbrev pub NoneBefore : (ℕ → Bool) → ℕ → Type 0
NoneBefore noted from = (place : ℕ) → place < from → noted place ≡ false

abbrev pub IsNone : (ℕ → Bool) → Type 0
IsNone noted = (place : ℕ) → noted place ≡ false

-- the first place that is noted
pub record IsFirst (noted : ℕ → Bool) (place : ℕ) : Type 0 where
  pub there : noted place ≡ true
  pub before : NoneBefore noted place

-- the round in which something of an entry is due next, or was first where it waits
abbrev pub due_at : Pace → EntryState → ℕ
due_at pace state = ideal state.entry (length state.settled) / end_of pace 0

-- The round in which the entry at a place has its next turn, where in this round those before `from` have had theirs: this
-- one if something of it is due or waits, and else the one in which something is due.
abbrev pub next_turn : Pace → ℕ → ℕ → ℕ → EntryState → ℕ
next_turn pace round from place state = max (if nat_lt place from then round + 1 else round) (due_at pace state)

abbrev pub has_turn : Pace → ℕ → ℕ → List EntryState → ℕ → ℕ → Bool
has_turn pace round from states at place =
    unwrap_or (option_map (λ state. at == next_turn pace round from place state) (slice_get states place)) false

-- What is noted in a round: each entry for the one round in which it has its next turn, and nothing else.
pub record IsAgenda (pace : Pace) (round from : ℕ) (states : List EntryState) (agenda : Agenda) : Type 0 where
  pub now : agenda.round ≡ round
  pub few : length states ≤ length agenda.near
  pub noted : (at place : ℕ) → round ≤ at → is_noted agenda at place ≡ has_turn pace round from states at place
