use Rattle.us_split.proofs.TurnClaimLaws.{claims_are_of_turns}
use Rattle.us_split.proofs.laws.claims_are_of_turns.Goals as goal

pub returns : goal.returns
returns c = claims_are_of_turns
