use Rattle.us_round.proofs.ChannelRunLaws.{channels_stay, calendars_run}
use Rattle.us_round.proofs.schedule_laws.calendars_run.Goals as goal

pub returns-clause-channels : goal.returns-clause-channels
returns-clause-channels c = channels_stay

pub returns-clause-settled : goal.returns-clause-settled
returns-clause-settled c = calendars_run
