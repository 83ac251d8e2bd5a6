use Rattle.std.proofs.Common.{refl}
use Rattle.std.specs.Fmt.{digits}
use Rattle.us_command_line.proofs.commands.rounds_word.Goals as goal

pub returns : goal.returns
unfolding digits
returns c = refl
