use Rattle.us_split.proofs.AskingLaws.{turns_pass}
use Rattle.us_split.proofs.laws.turns_pass.Goals as goal

pub returns : goal.returns
returns c = turns_pass
