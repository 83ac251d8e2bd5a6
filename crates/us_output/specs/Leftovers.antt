-- How a round tells who is pending, by the outstanding bytes before and after its grants; and what its boards keep.
use Rattle.std.specs.Prelude.{◌≡◌, ℕ, ◌<◌, nat_lt, ◌==◌, ◌&&◌, if◌then◌else◌, List, [], length, filter_map, slice_index, slice_index_or, Option, None, option_and_then}
use Rattle.std.specs.List.{AllByRecursion}
use Rattle.us_flows.specs.Tables.{Tables, map_len}
use Rattle.us_flows.specs.Turns.{turn_at}
use Rattle.us_flows.specs.Clusters.{Turn, turns_of}
use Rattle.us_flows.specs.declared.turns.Turn as places
use Rattle.us_flows.specs.Lawful.{IsChannel}
use Rattle.us_calendar.specs.Calendars as calendars
use Rattle.us_channel.specs.Placements.{PlacedClaim}
use Rattle.us_channel.specs.Channels.{Built}
use Rattle.us_output.specs.Outputs.{Scheduled, first_sid, pendings_on}

-- a turn that has bytes left, as many as were outstanding of it before, is pending
abbrev pub still_asking : List ℕ → List ℕ → Turn → Option (ℕ × ℕ)
still_asking outstanding left turn =
    if nat_lt 0 (slice_index left turn.number) && (slice_index left turn.number == slice_index outstanding turn.number)
    then first_sid turn else None

-- the same of a turn that is told by its places in the tables
abbrev pub still_asking_at : Tables → List ℕ → List ℕ → places.Turn → Option (ℕ × ℕ)
still_asking_at t outstanding left turn = option_and_then (still_asking outstanding left) (turn_at t turn)

-- the SIDs that are pending, dealt out by the ids of their channels: each list is that of its channel's MAP
unfoldable pub AreDealt : List (ℕ × ℕ) → List (List ℕ) → Type 0
AreDealt pendings lists = (id : ℕ) → slice_index_or lists id [] ≡ pendings_on id pendings

-- a round of these channels, where this is pending
abbrev pub told : ℕ → List Built → List (ℕ × ℕ) → Scheduled
told round builds pending = record { round = round; channels = builds; pending = pending }

-- the same, where so much was outstanding before, and so much is left
abbrev pub scheduled_by : Tables → ℕ → List ℕ → List ℕ → List Built → Scheduled
scheduled_by t round outstanding left builds =
    told round builds (filter_map (still_asking outstanding left) (turns_of t))

-- a grant starts inside a MAP of this length
abbrev pub StartsInside : ℕ → PlacedClaim → Type 0
StartsInside len g = g.assignment.start < len

-- a channel of these tables, whose board has the length of its MAPs
pub record IsBuiltFor (t : Tables) (built : Built) : Type 0 where
  pub channel : IsChannel t built.channel
  pub len : length built.board.cells ≡ map_len t built.channel

-- its grants start inside, and what its calendar granted does
pub record AreInside (built : Built) : Type 0 where
  pub settled : AllByRecursion (calendars.StartsInside (length built.board.cells)) built.settled
  pub grants : AllByRecursion (StartsInside (length built.board.cells)) built.grants
