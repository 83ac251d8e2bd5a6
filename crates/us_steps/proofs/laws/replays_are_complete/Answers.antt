use Rattle.us_steps.proofs.ReplayLaws.{replays_are_complete}
use Rattle.us_steps.proofs.laws.replays_are_complete.Goals as goal

pub returns : goal.returns
returns c = replays_are_complete
