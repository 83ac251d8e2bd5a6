use Rattle.us_bucket.proofs.RoundLemmas.{rounds-are-one}
use Rattle.us_bucket.proofs.laws.rounds_are_one_refill.Goals as goal

pub returns : goal.returns
returns c = rounds-are-one
