use Rattle.us_check.proofs.BurstLaws.{long_credits_fail}
use Rattle.us_check.proofs.laws.long_credits_fail.Goals as goal

pub returns : goal.returns
returns c = long_credits_fail
