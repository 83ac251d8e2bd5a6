-- One channel in a round (ours): its reserves, what its calendar settles, and the claims that are placed on it.
use Rattle.std.specs.Prelude.{◌≡◌, ℕ, List, [], length}
use Rattle.us_flows.specs.declared.channels.Channel.{Channel}
use Rattle.us_flows.specs.Tables.{Tables, map_len}
use Rattle.us_holes.specs.Boards.{Board, empty_board, assign_all}
use Rattle.us_calendar.specs.Calendars as calendars
use Rattle.us_calendar.specs.Calendars.{Calendar, Ran, IsCalendar}
use Rattle.us_calendar.specs.declared.settled.Settled.{Settled}
use Rattle.us_split.specs.Claims.{Claim}
use Rattle.us_channel.specs.Reserves.{reserves}
use Rattle.us_channel.specs.Placements.{PlacedClaim, grants_of, assignments}

-- a channel whose reserves stand, what its calendar settled, and that calendar as the next round finds it
pub record Filled : Type 0 where
  pub channel : Channel
  pub board : Board
  pub calendar : Calendar
  pub settled : List Settled

-- the calendar of a channel, which has heard the round's cut, goes over what its reserves leave
abbrev pub fill : Tables → ℕ → Channel → Calendar → Filled
fill t round c calendar =
    let board : Board = reserves c (map_len t c) round in
    let ran : Ran = calendars.settles calendar board in
    record { channel = c; board = ran.board; calendar = calendars.settled_after calendar board; settled = ran.settled }

-- a channel whose claims are placed; its calendar is the one that the next round finds
pub record Built : Type 0 where
  pub channel : Channel
  pub board : Board
  pub calendar : Calendar
  pub settled : List Settled
  pub grants : List PlacedClaim

-- before round 0: nothing stands on its board, and nothing of its calendar is settled
abbrev pub opening : Tables → Channel → Built
opening t c = record {
  channel = c;
  board = empty_board (map_len t c);
  calendar = calendars.opening t c;
  settled = [];
  grants = [];
}

-- a channel whose calendar has heard a round's cut
abbrev pub heard : List ℕ → Built → Built
heard cut b = record b { calendar = calendars.heard_by cut b.calendar }

-- none of its claims is granted yet
abbrev pub ungranted : Filled → Built
ungranted f = record { channel = f.channel; board = f.board; calendar = f.calendar; settled = f.settled; grants = [] }

-- all of it but its grants
abbrev pub filled_part : Built → Filled
filled_part b = record { channel = b.channel; board = b.board; calendar = b.calendar; settled = b.settled }

-- a channel with these claims placed
abbrev pub build_on : List Claim → Filled → Built
build_on claims f =
    let grants : List PlacedClaim = grants_of f.channel.bursts f.board claims in
    record {
      channel = f.channel;
      board = assign_all f.board (assignments grants);
      calendar = f.calendar;
      settled = f.settled;
      grants = grants;
    }

-- what every channel keeps: its board has the length of its MAPs, and the calendar its time
pub record IsBuilt (b : Built) : Type 0 where
  pub calendar : IsCalendar b.calendar
  pub len : length b.board.cells ≡ b.calendar.pace.len
  pub time : b.calendar.pace.time ≡ b.channel.bursts.time
