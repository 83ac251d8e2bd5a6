-- Laws of entries and of settling.
use Rattle.std.specs.Prelude.{◌≡◌, ℕ, ◌+◌, ◌<◌, ◌≤◌, ◌++◌, Bool, true, false, List, length, flat_map, if◌then◌else◌, nat_lt, Some, None, slice_get}
use Rattle.std.specs.List.{AllByRecursion, Contains, range_with_len}
use Rattle.us_flows.specs.declared.channels.Channel.{Channel}
use Rattle.us_flows.specs.Tables.{Tables, FlowTable, map_len}
use Rattle.us_flows.specs.Clusters.{Silent, Active, words_of}
use Rattle.us_flows.specs.Lawful.{AreTables}
use Rattle.us_holes.specs.Boards.{Board, assign_all, AllFit}
use Rattle.us_calendar.specs.Entries.{Entry, IsEntry, slots_of, entries}
use Rattle.us_calendar.specs.declared.silences.Silence.{Silence}
use Rattle.us_calendar.specs.Occurrences.{Pace, ideal, end_of, comes, window_end}
use Rattle.us_calendar.specs.Activity.{activity, speaks_by}
use Rattle.us_calendar.specs.Settling.{EntryState, settle_entry, closed}
use Rattle.us_calendar.specs.Calendars.{run_entries, pace_of, opening}
use Rattle.us_calendar.specs.Runs.{Round, assignments_of, rounds_on, after_rounds, end_after, IsOccurrence, IsSettledOnce}

-- An entry of a kind and an id stands on one channel of the tables, and is one.
abbrev pub EntriesAreApart : Type 0
EntriesAreApart = (t : Tables) → AreTables t → (c d : Channel) → Contains t.channels c → Contains t.channels d →
    (e f : Entry) → Contains (entries t c) e → Contains (entries t d) f → e.kind ≡ f.kind → e.id ≡ f.id →
    (c ≡ d) × (e ≡ f)

-- an entry, of which a grant has room in a MAP of a channel, and a poll
pub record IsLawfulEntry (t : Tables) (c : Channel) (e : Entry) : Type 0 where
  pub entry : IsEntry e
  pub room : e.slots ≤ map_len t c
  pub poll_room : slots_of e false ≤ map_len t c

-- So is each entry of a channel of accepted tables: it has a lawful owner, a minislot and a grant at least, and a jitter
-- below its interval.
abbrev pub EntriesAreLawful : Type 0
EntriesAreLawful = (t : Tables) → AreTables t → (c : Channel) → Contains t.channels c →
    AllByRecursion (IsLawfulEntry t c) (entries t c)

-- Where the activity of an entry's flow is detected, its words are those of a flow with the entry's id: one that marks the
-- flow as silent, and behind it one that marks it as active.
abbrev pub EntriesHaveWords : Type 0
EntriesHaveWords = (t : Tables) → AreTables t → (c : Channel) (e : Entry) (s : Silence) → Contains (entries t c) e →
    e.silence ≡ Some s → (flow : FlowTable) × (flow.id ≡ e.id) × (slice_get (words_of t) s.word ≡ Some (Silent flow))
    × (slice_get (words_of t) (s.word + 1) ≡ Some (Active flow))

-- the first `more` of an entry are settled at a time, and no others
pub record AreFirst (time : ℕ) (e : Entry) (speaks : ℕ → Bool) (settled : List ℕ) (more : ℕ) : Type 0 where
  pub first : settled ≡ range_with_len 0 more
  pub comes : comes e speaks more ≡ true
  -- The windows of the next one's interval aren't over. So other unsettled intervals, which begin behind these windows, begin
  -- later: of this interval alone the kind has to be kept.
  pub not_over : time ≤ window_end e more
  pub later : (n : ℕ) → ideal e more < ideal e n → time < ideal e n

-- Where the settled occurrences of an entry are the first ones, as many as there are, up to one that comes, so they are after
-- a round: what is unsettled is all from one on. For an occurrence that waits leaves no minislot of its window to the others
-- of its interval, the next interval begins behind the window, and a poll settles its whole interval.
abbrev pub FirstOnes : Type 0
FirstOnes = (pace : Pace) (round count : ℕ) (e : Entry) (speaks : ℕ → Bool) (board : Board) →
    1 ≤ e.grants → e.jitter < e.interval → comes e speaks count ≡ true →
    (more : ℕ) × (count ≤ more) × AreFirst (end_of pace round) e speaks (range_with_len 0 count
    ++ flat_map (closed e) (settle_entry pace round e speaks (range_with_len 0 count) board).settlements) more

-- So it is of each row of a channel's calendar, which is the state of an entry, after any number of rounds: all grants before
-- one grant of one interval are settled, and from that one on none is.
abbrev pub RowsStandFirst : Type 0
RowsStandFirst = (t : Tables) (c : Channel) (cuts : List (List ℕ)) (boards : List Board) → AreTables t →
    length cuts ≡ length boards →
    AllByRecursion (λ row. AreFirst (end_after (pace_of t c) (length cuts)) row.entry
    (speaks_by (pace_of t c) cuts row.entry) row.settled (length row.settled))
    (after_rounds (opening t c) cuts boards).states

-- A round leaves the board with what it granted, each where it fitted, after those before it.
abbrev pub GrantsFit : Type 0
GrantsFit = (pace : Pace) (round : ℕ) (states : List EntryState) (board : Board) →
    ((run_entries pace round states board).board ≡
    assign_all board (flat_map assignments_of (run_entries pace round states board).settled))
    × AllFit board (flat_map assignments_of (run_entries pace round states board).settled)

-- What is kept of an entry behind the rounds of these cuts is what the cuts say: whether its flow is active now, and, where
-- its activity is detected, whether it was in the round that holds the ideal time of the first unsettled occurrence, if
-- that round has come.
pub record IsAsHeard (pace : Pace) (cuts : List (List ℕ)) (state : EntryState) : Type 0 where
  pub active : state.active ≡ activity state.entry.silence true cuts
  pub waiting : (s : Silence) → state.entry.silence ≡ Some s → state.waiting ≡
      (if nat_lt (ideal state.entry (length state.settled)) (end_after pace (length cuts))
      then Some (speaks_by pace cuts state.entry (ideal state.entry (length state.settled))) else None)

-- So it is of all entries of a channel, after any number of rounds.
abbrev pub KindsAsHeard : Type 0
KindsAsHeard = (t : Tables) (c : Channel) (cuts : List (List ℕ)) (boards : List Board) → AreTables t →
    length cuts ≡ length boards →
    AllByRecursion (IsAsHeard (pace_of t c) cuts) (after_rounds (opening t c) cuts boards).states

-- Each occurrence of each entry of a channel that comes and whose window ends in a run is granted in its window or missed,
-- once, and is missed where it found no room. Which of them come, and how, the cuts of the run say.
abbrev pub SettledOnce : Type 0
SettledOnce = (t : Tables) (c : Channel) (cuts : List (List ℕ)) (boards : List Board) → AreTables t →
    AllByRecursion (λ e. (n : ℕ) → IsSettledOnce (pace_of t c) (speaks_by (pace_of t c) cuts e)
    (rounds_on (opening t c) cuts boards) e n) (entries t c)

-- All that the rounds of a channel settle are occurrences of its entries.
abbrev pub AreOccurrences : Type 0
AreOccurrences = (t : Tables) (c : Channel) (cuts : List (List ℕ)) (boards : List Board) →
    AllByRecursion (λ (round : Round). AllByRecursion (IsOccurrence (entries t c)) round.settled)
    (rounds_on (opening t c) cuts boards)
