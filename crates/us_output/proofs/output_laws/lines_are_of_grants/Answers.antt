use Rattle.us_output.proofs.OutputLaws.{by_start_moves}
use Rattle.us_output.proofs.output_laws.lines_are_of_grants.Goals as goal

pub returns : goal.returns
returns c = by_start_moves
