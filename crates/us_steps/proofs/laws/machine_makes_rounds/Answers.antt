use Rattle.us_steps.proofs.PlayLaws.{machine_makes_rounds}
use Rattle.us_steps.proofs.laws.machine_makes_rounds.Goals as goal

pub returns : goal.returns
returns c = machine_makes_rounds
