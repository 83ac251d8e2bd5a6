use Rattle.us_check.proofs.NamedLaws.{verdicts_name_the_first}
use Rattle.us_check.proofs.laws.verdicts_name_the_first.Goals as goal

pub returns : goal.returns
returns c = verdicts_name_the_first
