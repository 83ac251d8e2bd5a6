use Rattle.us_bucket.proofs.AllowanceLemmas.{is-allowance}
use Rattle.us_bucket.proofs.laws.bucket_is_allowance.Goals as goal

pub returns : goal.returns
returns c = is-allowance
