use Rattle.us_output.proofs.OutputLaws.{lines_bear_round}
use Rattle.us_output.proofs.output_laws.lines_bear_round.Goals as goal

pub returns : goal.returns
returns c = lines_bear_round
