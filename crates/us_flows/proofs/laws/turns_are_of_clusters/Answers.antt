use Rattle.us_flows.proofs.TurnLaws.{turns_are_of_clusters}
use Rattle.us_flows.proofs.laws.turns_are_of_clusters.Goals as goal

pub returns : goal.returns
returns c = turns_are_of_clusters
