use Rattle.us_round.proofs.OnePassLaws.{one_pass_does}
use Rattle.us_round.proofs.schedule_laws.one_pass_does.Goals as goal

pub returns : goal.returns
returns c = one_pass_does
