use Rattle.us_holes.proofs.OrderLaws.{assignments_stand_in_order}
use Rattle.us_holes.proofs.laws.assignments_stand_in_order.Goals as goal

pub returns : goal.returns
returns c = assignments_stand_in_order
