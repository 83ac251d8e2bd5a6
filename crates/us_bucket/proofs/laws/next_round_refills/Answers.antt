use Rattle.us_bucket.proofs.RoundLemmas.{next-refills}
use Rattle.us_bucket.proofs.laws.next_round_refills.Goals as goal

pub returns : goal.returns
returns c = next-refills
