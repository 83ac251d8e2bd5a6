use Rattle.us_output.specs.Files.{lines}
use Rattle.us_output.proofs.channel_lines.ChannelLines.write.Goals as goal

pub returns : goal.returns
unfolding lines
returns c inside = record {
  ordered = c.in_ok-tell_lines.ensures.ordered inside;
  text = rw c.clear.ensures at (c.in_ok-tell_lines.ensures.lines inside);
  fields = c.in_ok-tell_lines.ensures.fields inside;
}
