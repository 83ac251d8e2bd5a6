use Rattle.clap.specs.Words.{found_of}
use Rattle.us_command_line.proofs.OptionLemmas.{text_any, text_none, text_some}
use Rattle.us_command_line.proofs.words.text_of.Goals as goal

pub returns-clause-some : goal.returns-clause-some
returns-clause-some c = text_some (found_of c.args.options.now) c.args.option.now _ c.get_str.ensures

pub returns-clause-none : goal.returns-clause-none
returns-clause-none c = text_none (found_of c.args.options.now) c.args.option.now _ c.get_str.ensures

pub returns-clause-value : goal.returns-clause-value
returns-clause-value c = text_any (found_of c.args.options.now) c.args.option.now _ c.get_str.ensures
