use Rattle.us_bucket.proofs.LevelLemmas.{has_reserved}
use Rattle.us_bucket.proofs.laws.bucket_has_reserve.Goals as goal

pub returns : goal.returns
returns c = has_reserved
