use Rattle.us_steps.proofs.SeatLaws.{seats_change_nothing}
use Rattle.us_steps.proofs.laws.seats_change_nothing.Goals as goal

pub returns : goal.returns
returns c = seats_change_nothing
