-- What a round settles by all cuts so far, with nothing kept of which flows are silent.
use Rattle.std.specs.Prelude.{◌≡◌, ℕ, ◌+◌, ◌-◌, ◌*◌, ◌&&◌, Bool, true, ⊤, List, [], ◌∷◌, ◌++◌, length, map}
use Rattle.std.specs.List.{AllByRecursion}
use Rattle.us_flows.specs.declared.channels.Channel.{Channel}
use Rattle.us_flows.specs.Tables.{Tables}
use Rattle.us_flows.specs.Lawful.{AreTables}
use Rattle.us_holes.specs.Boards.{Board, fits, IsLeastWithin}
use Rattle.us_calendar.specs.Entries.{Entry, slots_of, rank_of, entries}
use Rattle.us_calendar.specs.Occurrences.{Pace, ideal, starts_within}
use Rattle.us_calendar.specs.Activity.{speaks_by}
use Rattle.us_calendar.specs.Settling.{EntryState, SettledEntry, settle_entry, told_as}
use Rattle.us_calendar.specs.Calendars.{Ran, pace_of, opening, ran}
use Rattle.us_calendar.specs.Runs.{is_name, board_at_turn, after_rounds}
use Rattle.us_calendar.specs.declared.settled.Settled.{Settled}
use Rattle.us_calendar.specs.declared.settled.Settled.TheVariants as told

-- the board that a round leaves, and what it settled
pub record SettledRound : Type 0 where
  pub board : Board
  pub settled : List Settled

-- Entries one after another, each on the board that those before it leave. Each interval is of the kind that the cuts say at
-- its ideal time; of a row only its entry is asked for, and which occurrences are settled.
unfoldable pub settle_by : Pace → List (List ℕ) → ℕ → List EntryState → Board → SettledRound
settle_by pace cuts round [] board = record { board = board; settled = [] }
settle_by pace cuts round (row ∷ rows) board =
    let one : SettledEntry = settle_entry pace round row.entry (speaks_by pace cuts row.entry) row.settled board in
    let rest : SettledRound = settle_by pace cuts round rows one.board in
    record { board = rest.board; settled = map (told_as row.entry) one.settlements ++ rest.settled }

-- a minislot of this round's MAP is the least one that lies in an occurrence's window and where it fits, as a grant or as a poll
abbrev pub IsLeastStart : Pace → ℕ → Entry → Bool → ℕ → Board → ℕ → Type 0
IsLeastStart pace round e active n board start =
    IsLeastWithin (λ at. starts_within pace.time e n (round * pace.len + at) && fits board (slots_of e active) at) 0
    (pace.len - 1) start

-- an occurrence of an entry starts there, where it is granted
abbrev pub StartsLeast : Pace → ℕ → Entry → Bool → ℕ → Board → Settled → Type 0
StartsLeast pace round e active n board (told.Granted kind id i k start slots owner) =
    is_name e n (rank_of kind) id i k ≡ true → IsLeastStart pace round e active n board start
StartsLeast pace round e active n board (told.Missed kind id i k) = ⊤

-- A round of these entries goes by the cuts: it settles what they say, leaves that board, and each occurrence that it grants
-- starts at the least minislot, on the board that it meets.
pub record GoesByCuts (pace : Pace) (es : List Entry) (cuts : List (List ℕ)) (round : ℕ) (rows : List EntryState)
    (board : Board) (done : Ran) : Type 0 where
  pub settled : done.settled ≡ (settle_by pace cuts round rows board).settled
  pub leaves : done.board ≡ (settle_by pace cuts round rows board).board
  pub least : AllByRecursion (λ e. (n : ℕ) →
      AllByRecursion (StartsLeast pace round e (speaks_by pace cuts e (ideal e n)) n
      (board_at_turn e n (record { board = board; settled = done.settled }))) done.settled) es

-- After any rounds of a channel, from the opening on, the next one goes by their cuts and its own.
abbrev pub SettlesByCuts : Type 0
SettlesByCuts = (t : Tables) (c : Channel) (cuts : List (List ℕ)) (boards : List Board) (cut : List ℕ) (board : Board) →
    AreTables t → length cuts ≡ length boards →
    GoesByCuts (pace_of t c) (entries t c) (cuts ++ cut ∷ []) (length cuts) (after_rounds (opening t c) cuts boards).states
    board (ran (after_rounds (opening t c) cuts boards) cut board)
