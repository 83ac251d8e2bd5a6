-- Inside the crate, and of no use to a reader of the promise: the texts of a channel's round that whoever has the channel
-- wrote ahead.
use Rattle.std.specs.Prelude.{◌≡◌, ℕ, ◌+◌, ◌*◌, ◌≤◌, List, length, take, flat_map}
use Rattle.std.specs.List.{AllByRecursion}
use Rattle.std.specs.Int.{to_be_bytes, w32}
use Rattle.us_codec.specs.Elements.{word_of}
use Rattle.us_flows.specs.declared.channels.Channel.{Channel}
use Rattle.us_holes.specs.Boards.{max_assignments}
use Rattle.us_holes.specs.Runs.{Run, runs_of}
use Rattle.us_channel.specs.Maps.{run_element}
use Rattle.us_channel.specs.Channels.{Built}
use Rattle.us_output.specs.Files.{lines}
use Rattle.us_output.specs.Leftovers.{AreInside}
use Rattle.us_output.specs.Lines.{HasFields}
use Rattle.us_output.specs.Orders.{ordered_spots}
use Rattle.us_output.specs.Outputs.{rows_on}
use Rattle.us_output.specs.declared.ahead.Ahead.{Ahead}
use Rattle.us_output.specs.declared.channel_lines.ChannelLines.{ChannelLines}

-- the bytes of the elements of some runs
abbrev pub words_of : Channel → List Run → List ℕ
words_of c runs = flat_map (λ run. to_be_bytes w32 (word_of (run_element c run))) runs

-- the lines are those of a channel in this round
pub record AreLinesOf (round : ℕ) (b : Built) (written : ChannelLines) : Type 0 where
  pub ordered : written.order.spots.items ≡ ordered_spots b
  pub text : written.text ≡ lines (rows_on round b)
  pub fields : AllByRecursion HasFields (rows_on round b)

-- the texts are those of a channel in this round
pub record AreOf (round : ℕ) (b : Built) (ahead : Ahead) : Type 0 where
  pub runs : ahead.runs ≡ length (runs_of b.board.cells)
  pub few : ahead.runs ≤ 2 * max_assignments + 1
  pub elements : take (4 * ahead.runs) ahead.elements ≡ words_of b.channel (runs_of b.board.cells)
  pub lines : AreInside b → AreLinesOf round b ahead.lines
