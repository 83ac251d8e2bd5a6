use Rattle.us_lawful.proofs.RegionLemmas.{ordered_assignments_hold}
use Rattle.us_lawful.proofs.laws.ordered_assignments_hold.Goals as goal

pub returns : goal.returns
returns c = ordered_assignments_hold
