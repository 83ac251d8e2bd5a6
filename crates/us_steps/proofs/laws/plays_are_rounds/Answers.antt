use Rattle.us_steps.proofs.PlayLaws.{plays_are_rounds}
use Rattle.us_steps.proofs.laws.plays_are_rounds.Goals as goal

pub returns : goal.returns
returns c = plays_are_rounds
