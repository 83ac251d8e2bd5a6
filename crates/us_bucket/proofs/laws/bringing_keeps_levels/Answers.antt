use Rattle.us_bucket.proofs.RoundLemmas.{bringing-keeps}
use Rattle.us_bucket.proofs.laws.bringing_keeps_levels.Goals as goal

pub returns : goal.returns
returns c = bringing-keeps
