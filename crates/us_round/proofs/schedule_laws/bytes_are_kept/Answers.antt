use Rattle.us_round.proofs.ByteLaws.{bytes_are_kept}
use Rattle.us_round.proofs.schedule_laws.bytes_are_kept.Goals as goal

pub returns : goal.returns
returns c = bytes_are_kept
