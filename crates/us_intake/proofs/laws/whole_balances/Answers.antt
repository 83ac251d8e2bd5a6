use Rattle.us_intake.proofs.LawLemmas.{balanced-whole}
use Rattle.us_intake.proofs.laws.whole_balances.Goals as goal

pub returns : goal.returns
returns c = balanced-whole
