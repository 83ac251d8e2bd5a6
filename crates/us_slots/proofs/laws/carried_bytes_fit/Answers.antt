use Rattle.us_slots.proofs.CostLaws.{carried_bytes_fit}
use Rattle.us_slots.proofs.laws.carried_bytes_fit.Goals as goal

pub returns : goal.returns
returns c = carried_bytes_fit
