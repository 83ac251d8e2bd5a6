use Rattle.std.proofs.Common.{refl}
use Rattle.std.specs.Str.Parse.{ExplainsUnsignedError, HasUnsignedDigitsIfOk, ParsesUnsigned}
use Rattle.clap.specs.Words.{found_of}
use Rattle.us_command_line.proofs.OptionLemmas.{number_any, number_none, number_some}
use Rattle.us_command_line.proofs.words.number_of.Goals as goal

pub returns-clause-some : goal.returns-clause-some
returns-clause-some c =
    number_some (λ bs r. ParsesUnsigned 32 10 bs r × ExplainsUnsignedError 10 bs r × HasUnsignedDigitsIfOk bs r)
    (λ t r read. read.0) (found_of c.args.options.now) c.args.option.now _ _ refl c.get_one.ensures.none c.get_one.ensures.value

pub returns-clause-none : goal.returns-clause-none
returns-clause-none c =
    number_none (λ bs r. ParsesUnsigned 32 10 bs r × ExplainsUnsignedError 10 bs r × HasUnsignedDigitsIfOk bs r)
    (λ t r read. read.0) (found_of c.args.options.now) c.args.option.now _ c.get_one.ensures.value

pub returns-clause-value : goal.returns-clause-value
returns-clause-value c =
    number_any _ c.args.option.now _
    (number_some (λ bs r. ParsesUnsigned 32 10 bs r × ExplainsUnsignedError 10 bs r × HasUnsignedDigitsIfOk bs r)
    (λ t r read. read.0) (found_of c.args.options.now) c.args.option.now _ _ refl c.get_one.ensures.none c.get_one.ensures.value)
    (number_none (λ bs r. ParsesUnsigned 32 10 bs r × ExplainsUnsignedError 10 bs r × HasUnsignedDigitsIfOk bs r)
    (λ t r read. read.0) (found_of c.args.options.now) c.args.option.now _ c.get_one.ensures.value)
