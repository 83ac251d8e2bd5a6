use Rattle.us_bucket.proofs.AllowanceLemmas.{keeps-bound}
use Rattle.us_bucket.proofs.laws.bucket_keeps_bound.Goals as goal

pub returns : goal.returns
returns c = keeps-bound
