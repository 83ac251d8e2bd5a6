use Rattle.us_channel.proofs.BoardLaws.{placed_have_minislots}
use Rattle.us_channel.proofs.laws.placed_have_minislots.Goals as goal

pub returns : goal.returns
returns c = placed_have_minislots
