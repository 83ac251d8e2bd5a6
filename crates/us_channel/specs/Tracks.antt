-- Inside the crate, and of no use to a reader of the promise: what a channel has of its own in memory.
use Rattle.std.specs.Prelude.{◌≡◌, ◌≤◌, length, vec_capacity}
use Rattle.us_flows.specs.declared.channels.Channel.{Channel}
use Rattle.us_holes.specs.Boards.{max_assignments}
use Rattle.us_channel.specs.declared.channel_rounds.Track.{Track}

-- the board has the length of the channel's MAPs, the calendar its time, and there is room for as many grants as a MAP has
-- assignments
pub record IsTrack (c : Channel) (track : Track) : Type 0 where
  pub len : length track.board.cells ≡ track.calendar.pace.len
  pub time : track.calendar.pace.time ≡ c.bursts.time
  pub room : max_assignments ≤ vec_capacity track.grants
