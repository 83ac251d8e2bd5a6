use Rattle.us_flows.proofs.TurnLaws.{one_turn}
use Rattle.us_flows.proofs.laws.one_turn.Goals as goal

pub returns : goal.returns
returns c = one_turn
