use Rattle.us_split.proofs.RequestedLemmas.{cuts_are_of_clusters}
use Rattle.us_split.proofs.laws.cuts_are_of_clusters.Goals as goal

pub returns : goal.returns
returns c = cuts_are_of_clusters
