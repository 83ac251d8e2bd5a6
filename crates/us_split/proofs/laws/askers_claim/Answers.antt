use Rattle.us_split.proofs.AskingLaws.{askers_claim}
use Rattle.us_split.proofs.laws.askers_claim.Goals as goal

pub returns : goal.returns
returns c = askers_claim
