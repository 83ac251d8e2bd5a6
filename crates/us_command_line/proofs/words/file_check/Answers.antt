use Rattle.us_command_line.proofs.OptionLemmas.{no_rounds_no_check}
use Rattle.us_command_line.proofs.words.file_check.Goals as goal

pub returns-in_err-number_of-clause-none : goal.returns-in_err-number_of-clause-none
returns-in_err-number_of-clause-none c = no_rounds_no_check _ _ c.in_err-number_of.ensures.none
