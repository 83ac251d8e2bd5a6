use Rattle.us_channel.proofs.BoardLaws.{grants_fit}
use Rattle.us_channel.proofs.laws.grants_fit.Goals as goal

pub returns : goal.returns
returns c = grants_fit
