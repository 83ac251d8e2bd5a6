use Rattle.us_lawful.proofs.LawfulLaws.{schedules_are_lawful}
use Rattle.us_lawful.proofs.laws.schedules_are_lawful.Goals as goal

pub returns : goal.returns
returns c = schedules_are_lawful
