use Rattle.us_round.proofs.MapLaws.{maps_are_lawful}
use Rattle.us_round.proofs.schedule_laws.maps_are_lawful.Goals as goal

pub returns : goal.returns
returns c = maps_are_lawful
