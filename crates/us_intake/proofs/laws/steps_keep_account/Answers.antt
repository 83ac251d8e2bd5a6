use Rattle.us_intake.proofs.LawLemmas.{steps-keep}
use Rattle.us_intake.proofs.laws.steps_keep_account.Goals as goal

pub returns : goal.returns
returns c = steps-keep
