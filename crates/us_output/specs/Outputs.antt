-- What a round gives (ours): the MAP of each channel, and its lines. How the round comes to its channels stands in us_round.
use Rattle.std.specs.Prelude.{ℕ, Bool, true, false, not, ◌==◌, ◌≤◌, if◌then◌else◌, List, ◌++◌, length, map, filter, filter_map, flat_map, zip, take, slice_get, slice_index, Option, option_map, option_and_then}
use Rattle.std.specs.List.{AllByRecursion, range_with_len}
use Rattle.us_codec.specs.Bodies.{MapBody, max_body_bytes, max_elements, spelling}
use Rattle.us_flows.specs.declared.channels.Channel.{Channel}
use Rattle.us_flows.specs.Tables.{FlowTable, Tables}
use Rattle.us_flows.specs.Clusters.{Turn}
use Rattle.us_bucket.specs.Levels.{Level, units_in}
use Rattle.us_holes.specs.Boards.{max_assignments}
use Rattle.us_calendar.specs.declared.kinds.Kind.{Kind}
use Rattle.us_calendar.specs.declared.kinds.Kind.TheVariants as kinds
use Rattle.us_calendar.specs.declared.settled.Settled.{Settled}
use Rattle.us_calendar.specs.declared.settled.Settled.TheVariants as settled
use Rattle.us_channel.specs.Placements.{PlacedClaim}
use Rattle.us_channel.specs.Channels.{Built}
use Rattle.us_channel.specs.Maps.{max_pendings, map_of}
use Rattle.us_output.specs.declared.rows.Row.{Row}
use Rattle.us_output.specs.declared.rows.Row.TheVariants as rows
use Rattle.us_output.specs.declared.rows.EntryWord.{EntryWord}
use Rattle.us_output.specs.declared.rows.EntryWord.TheVariants as words

-- What is told.

-- a round: its number, its channels in table order, and what is pending
pub record Scheduled : Type 0 where
  pub round : ℕ
  pub channels : List Built
  pub pending : List (ℕ × ℕ)

-- MAPs.

-- the first channel of a turn's flow, by its id, with the turn's SID there
abbrev pub first_sid : Turn → Option (ℕ × ℕ)
first_sid turn = slice_get (zip turn.cluster.flow.channels turn.cluster.sids) 0

-- the SIDs that a MAP lists: the first that are pending on its channel
unfoldable pub pendings_on : ℕ → List (ℕ × ℕ) → List ℕ
pendings_on id pendings = take max_pendings (map (λ pending. pending.1) (filter (λ pending. pending.0 == id) pendings))

-- the MAP of a channel's round
abbrev pub built_map : Tables → ℕ → List (ℕ × ℕ) → Built → MapBody
built_map t round pending built =
    map_of t round built.channel built.board (pendings_on built.channel.id pending)

-- Lines.

-- where the grant of a line starts; 0 for lines of no grant
abbrev pub start_of : Row → ℕ
start_of (rows.Granted grant) = grant.start
start_of _ = 0

-- items by a number that each has
unfoldable pub in_order : {X : Type 0} → (X → ℕ) → ℕ → List X → List X
in_order number len items = flat_map (λ n. filter (λ x. number x == n) items) (range_with_len 0 len)

-- the word of a calendar's entry
abbrev pub entry_word : Kind → EntryWord
entry_word kinds.Unsolicited = words.Unsolicited
entry_word kinds.Activity = words.Activity
entry_word kinds.RealTimePoll = words.RealTimePoll
entry_word kinds.NonRealTimePoll = words.NonRealTimePoll
entry_word kinds.Station = words.Station

-- the line of what the calendar of a channel settled: a G line, which credits nothing, or an M line
abbrev pub settled_row : ℕ → Channel → Settled → Row
settled_row round c (settled.Granted kind id i k start slots owner) = rows.Granted (record {
  round = round;
  channel = c.id;
  entry = entry_word kind;
  id = id;
  i = i;
  k = k;
  sid = owner.sid;
  iuc = owner.iuc;
  start = start;
  slots = slots;
  credit = 0;
})
settled_row round c (settled.Missed kind id i k) = rows.Missed (record {
  round = round;
  channel = c.id;
  entry = entry_word kind;
  id = id;
  i = i;
  k = k;
})

abbrev pub is_granted : Settled → Bool
is_granted (settled.Granted kind id i k start slots owner) = true
is_granted (settled.Missed kind id i k) = false

-- the G line of a claim that was placed
abbrev pub grant_row : ℕ → Channel → PlacedClaim → Row
grant_row round c placed = rows.Granted (record {
  round = round;
  channel = c.id;
  entry = words.Requested;
  id = placed.claimant.flow;
  i = placed.claimant.list;
  k = 0;
  sid = placed.assignment.owner.sid;
  iuc = placed.assignment.owner.iuc;
  start = placed.assignment.start;
  slots = placed.assignment.slots;
  credit = placed.credit;
})

-- the G lines of a channel's round, of its calendar and of requests,
abbrev pub granted_rows : ℕ → Built → List Row
granted_rows round built =
    map (settled_row round built.channel) (filter is_granted built.settled)
    ++ map (grant_row round built.channel) built.grants

-- and its M lines, in the order of the calendar
abbrev pub missed_rows : ℕ → Built → List Row
missed_rows round built = map (settled_row round built.channel) (filter (λ s. not (is_granted s)) built.settled)

-- its lines: those of grants by their start, then those of what was missed
unfoldable pub rows_on : ℕ → Built → List Row
rows_on round built = in_order start_of (length built.board.cells) (granted_rows round built) ++ missed_rows round built

-- the F line of a cluster, of what is outstanding of each cluster and the bucket of each flow
abbrev pub final_row : List ℕ → List Level → Turn → Row
final_row outstanding buckets turn = rows.Final (record {
  flow = turn.cluster.flow.id;
  cluster = turn.cluster.list;
  outstanding = slice_index outstanding turn.number;
  units = option_and_then units_in (slice_get buckets turn.place);
})

-- the A line of a flow that is active, or else silent
abbrev pub activity_row : FlowTable → Bool → Row
activity_row flow active = rows.Activity (record { flow = flow.id; active = if active then 1 else 0 })

-- the A lines of flows in their order, where it is told of some of them whether they are active
abbrev pub activity_rows : List FlowTable → List (Option Bool) → List Row
activity_rows flows told = filter_map (λ one. option_map (activity_row one.0) one.1) (zip flows told)

-- What a round gives: its MAPs in table order, and its lines.
pub record RoundOut : Type 0 where
  pub round : ℕ
  pub maps : List MapBody
  pub rows : List Row

unfoldable pub out_of : Tables → Scheduled → RoundOut
out_of t s = record {
  round = s.round;
  maps = map (built_map t s.round s.pending) s.channels;
  rows = flat_map (rows_on s.round) s.channels;
}

-- Limits.

-- no channel's MAP passes its most assignments, pendings and elements, nor its most bytes
pub record IsWithinLimits (t : Tables) (round : ℕ) (pending : List (ℕ × ℕ)) (built : Built) : Type 0 where
  pub assignments : built.board.standing ≤ max_assignments
  pub pendings : length (pendings_on built.channel.id pending) ≤ max_pendings
  pub elements : length (built_map t round pending built).elements ≤ max_elements
  pub bytes : length (spelling (built_map t round pending built)) ≤ max_body_bytes

abbrev pub AreWithinLimits : Tables → Scheduled → Type 0
AreWithinLimits t s = AllByRecursion (IsWithinLimits t s.round s.pending) s.channels
