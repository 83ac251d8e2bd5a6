use Rattle.us_bucket.proofs.RoundLemmas.{refills-are-one}
use Rattle.us_bucket.proofs.laws.refills_are_one.Goals as goal

pub returns : goal.returns
returns c = refills-are-one
