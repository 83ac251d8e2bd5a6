use Rattle.us_bucket.proofs.AllowanceLemmas.{is-reserve}
use Rattle.us_bucket.proofs.laws.bucket_is_reserve.Goals as goal

pub returns : goal.returns
returns c = is-reserve
