use Rattle.us_steps.proofs.PlayLaws.{nothing_is_lost}
use Rattle.us_steps.proofs.laws.nothing_is_lost.Goals as goal

pub returns : goal.returns
returns c = nothing_is_lost
