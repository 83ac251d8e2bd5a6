use Rattle.us_round.proofs.ScheduleLaws.{rounds_are_sound}
use Rattle.us_round.proofs.schedule_laws.rounds_are_sound.Goals as goal

pub returns : goal.returns
returns c = rounds_are_sound
