use Rattle.us_split.proofs.TurnClaimLaws.{clusters_claim_once}
use Rattle.us_split.proofs.laws.clusters_claim_once.Goals as goal

pub returns : goal.returns
returns c = clusters_claim_once
