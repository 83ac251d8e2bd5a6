use Rattle.us_command_line.proofs.OptionLemmas.{no_check_no_replay, no_workers_no_replay}
use Rattle.us_command_line.proofs.words.file_replay.Goals as goal

pub returns-in_err-files-clause-none : goal.returns-in_err-files-clause-none
returns-in_err-files-clause-none c = no_check_no_replay _ _ c.in_err-files.ensures.none

pub returns-in_err-number_of-clause-none : goal.returns-in_err-number_of-clause-none
returns-in_err-number_of-clause-none c = no_workers_no_replay _ _ c.in_err-number_of.ensures.none
