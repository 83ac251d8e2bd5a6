use Rattle.us_channel.proofs.BoardLaws.{grants_are_of_claims}
use Rattle.us_channel.proofs.laws.grants_are_of_claims.Goals as goal

pub returns : goal.returns
returns c = grants_are_of_claims
