use Rattle.us_channel.proofs.BoardLaws.{boards_are_built}
use Rattle.us_channel.proofs.laws.boards_are_built.Goals as goal

pub returns : goal.returns
returns c = boards_are_built
