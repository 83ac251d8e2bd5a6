use Rattle.us_slots.proofs.CostLaws.{bytes_cost_minislots}
use Rattle.us_slots.proofs.laws.bytes_cost_minislots.Goals as goal

pub returns : goal.returns
returns c = bytes_cost_minislots
