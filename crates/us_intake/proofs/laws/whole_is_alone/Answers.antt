use Rattle.us_intake.proofs.LawLemmas.{alone-whole}
use Rattle.us_intake.proofs.laws.whole_is_alone.Goals as goal

pub returns : goal.returns
returns c = alone-whole
