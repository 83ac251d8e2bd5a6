-- The calendar of a channel, from round to round.
use Rattle.std.specs.Prelude.{ℕ, ◌+◌, ◌*◌, ◌<◌, ◌≤◌, ◌^◌, ◌==◌, ◌&&◌, Bool, ⊤, List, [], ◌∷◌, ◌++◌, length, map, sum_by, Option, is_some, option_map}
use Rattle.std.specs.List.{find}
use Rattle.us_slots.specs.Times.{minislot_ticks}
use Rattle.us_flows.specs.declared.channels.Channel.{Channel}
use Rattle.us_flows.specs.Tables.{Tables, map_len}
use Rattle.us_holes.specs.Boards.{Board}
use Rattle.us_calendar.specs.Entries.{entries}
use Rattle.us_calendar.specs.Occurrences.{Pace, end_of}
use Rattle.us_calendar.specs.Settling.{EntryState, SettledEntry, opening_state, heard, settle_state, after_settling, told_as}
use Rattle.us_calendar.specs.declared.settled.Settled.{Settled}
use Rattle.us_calendar.specs.declared.settled.Settled.TheVariants as told

-- the calendar of a channel: its entries in order, each with what of it is settled, and the number of the next round
pub record Calendar : Type 0 where
  pub pace : Pace
  pub next_round : ℕ
  pub states : List EntryState

abbrev pub pace_of : Tables → Channel → Pace
pace_of t c = record { time = c.bursts.time; len = map_len t c }

-- before round 0 nothing is settled, and each flow is active
abbrev pub opening : Tables → Channel → Calendar
opening t c = record {
  pace = pace_of t c;
  next_round = 0;
  states = map opening_state (entries t c);
}

-- what a round comes to: the calendar and the board that it leaves, and what it settled, in the order of entries
pub record Ran : Type 0 where
  pub states : List EntryState
  pub board : Board
  pub settled : List Settled

-- entries one after another, each on the board that those before it leave
unfoldable pub run_entries : Pace → ℕ → List EntryState → Board → Ran
run_entries pace round [] board = record { states = []; board = board; settled = [] }
run_entries pace round (state ∷ more) board =
    let one : SettledEntry = settle_state pace round state board in
    let rest : Ran = run_entries pace round more one.board in
    record rest {
      states = after_settling (end_of pace round) state one.settlements ∷ rest.states;
      settled = map (told_as state.entry) one.settlements ++ rest.settled;
    }

-- a calendar that has heard a round's cut, bytes by word
abbrev pub heard_by : List ℕ → Calendar → Calendar
heard_by cut calendar = record calendar { states = map (heard cut) calendar.states }

-- its round on a board
abbrev pub settles : Calendar → Board → Ran
settles calendar board = run_entries calendar.pace calendar.next_round calendar.states board

-- and the calendar then
abbrev pub settled_after : Calendar → Board → Calendar
settled_after calendar board = record calendar {
  next_round = calendar.next_round + 1;
  states = (settles calendar board).states;
}

-- the round of a calendar with a cut, on a board, and the calendar then
abbrev pub ran : Calendar → List ℕ → Board → Ran
ran calendar cut board = settles (heard_by cut calendar) board

abbrev pub after : Calendar → List ℕ → Board → Calendar
after calendar cut board = settled_after (heard_by cut calendar) board

-- the entry of the flow with this id, if its activity is detected,
abbrev pub is_heard_as : ℕ → EntryState → Bool
is_heard_as id state = is_some state.entry.silence && (state.entry.id == id)

-- and whether that flow is active
abbrev pub activity_in : ℕ → Calendar → Option Bool
activity_in id calendar = option_map (λ state. state.active) (find (is_heard_as id) calendar.states)

-- how many occurrences are settled so far: granted or missed, or left out in a silent interval
abbrev pub settled_in : Calendar → ℕ
settled_in calendar = sum_by (λ state. length state.settled) calendar.states

-- the most of them: a calendar has at most 1,280 entries, and each has at most 127 occurrences in a quarter microsecond
-- of a run, of which there are fewer than 2^32
abbrev pub max_settled : ℕ
max_settled = 2 ^ 50

-- what every calendar keeps
pub record IsCalendar (calendar : Calendar) : Type 0 where
  pub len : 1 ≤ calendar.pace.len
  pub ticks : calendar.pace.len * minislot_ticks calendar.pace.time ≤ 4096
  pub settled : settled_in calendar ≤ max_settled

-- it is missed, or starts inside a MAP of this length
abbrev pub StartsInside : ℕ → Settled → Type 0
StartsInside len (told.Granted kind id i k start slots owner) = start < len
StartsInside len (told.Missed kind id i k) = ⊤

-- how many are granted
abbrev pub one_if_granted : Settled → ℕ
one_if_granted (told.Granted kind id i k start slots owner) = 1
one_if_granted (told.Missed kind id i k) = 0

abbrev pub granted_in : List Settled → ℕ
granted_in settled = sum_by one_if_granted settled
