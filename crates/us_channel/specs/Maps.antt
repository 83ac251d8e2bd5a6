-- The MAP of a channel's round (ours): its board, and the SIDs that are pending, as elements behind a head.
use Rattle.std.specs.Prelude.{ℕ, ◌-◌, ◌*◌, ◌/◌, nat_le, if◌then◌else◌, List, ◌++◌, map, Option, Some, None}
use Rattle.us_slots.specs.Times.{minislot_ticks}
use Rattle.us_slots.specs.UsageCodes as codes
use Rattle.us_codec.specs.declared.heads.Head.{Head}
use Rattle.us_codec.specs.Elements.{MapElement}
use Rattle.us_codec.specs.Bodies.{MapBody, body_of}
use Rattle.us_flows.specs.declared.channels.Channel.{Channel}
use Rattle.us_flows.specs.Tables.{Tables, map_len}
use Rattle.us_holes.specs.Boards.{Owner, Board}
use Rattle.us_holes.specs.Runs.{Run, runs_of}
use Rattle.us_channel.specs.Reserves.{broadcast}

-- the element of an idle run: any modem may request there, if a request fits, and else nobody is addressed
abbrev pub gap : Channel → ℕ → ℕ → MapElement
gap c start len = record {
  sid = if nat_le c.request_minislots len then broadcast else 0;
  iuc = codes.request;
  offset = start;
}

-- the element of minislots of this owner, or of none
abbrev pub element_by : Channel → ℕ → ℕ → Option Owner → MapElement
element_by c start len None = gap c start len
element_by c start len (Some owner) = record { sid = owner.sid; iuc = owner.iuc; offset = start }

abbrev pub run_element : Channel → Run → MapElement
run_element c run = element_by c run.start run.len run.owner

-- what stands before the Null: each assignment and each idle run
unfoldable pub elements_of : Channel → Board → List MapElement
elements_of c board = map (run_element c) (runs_of board.cells)

-- the most pendings of a MAP
abbrev pub max_pendings : ℕ
max_pendings = 38

-- a data grant pending, at the MAP's length
abbrev pub pending_element : ℕ → ℕ → MapElement
pending_element len sid = record { sid = sid; iuc = codes.long_data_grant; offset = len }

-- what stands before the elements; the Ack Time is 0 where it would lie before the first minislot
unfoldable pub head_of : Tables → ℕ → Channel → Head
head_of t round c = record {
  channel = c.id;
  ucd_count = c.ucd_count;
  alloc_start = round * map_len t c;
  ack = (round * t.round_ticks - t.lead_ticks) / minislot_ticks c.bursts.time;
  backoffs = c.ranging_backoff ++ c.data_backoff;
}

-- the MAP of a board and of the SIDs that are pending
unfoldable pub map_of : Tables → ℕ → Channel → Board → List ℕ → MapBody
map_of t round c board sids =
    body_of (head_of t round c) (elements_of c board) (map_len t c) (map (pending_element (map_len t c)) sids)
