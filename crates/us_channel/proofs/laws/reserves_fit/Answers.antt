use Rattle.us_channel.proofs.BoardLaws.{reserves_fit}
use Rattle.us_channel.proofs.laws.reserves_fit.Goals as goal

pub returns : goal.returns
returns c = reserves_fit
