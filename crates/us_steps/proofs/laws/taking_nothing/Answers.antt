use Rattle.us_steps.proofs.ReplayLaws.{taking_nothing}
use Rattle.us_steps.proofs.laws.taking_nothing.Goals as goal

pub returns : goal.returns
returns c = taking_nothing
