use Rattle.us_split.proofs.FullLaws.{full_give_nothing}
use Rattle.us_split.proofs.laws.full_give_nothing.Goals as goal

pub returns : goal.returns
returns c = full_give_nothing
