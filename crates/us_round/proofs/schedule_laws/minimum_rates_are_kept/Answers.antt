use Rattle.us_round.proofs.MinimumLaws.{minimum_rates_are_kept}
use Rattle.us_round.proofs.schedule_laws.minimum_rates_are_kept.Goals as goal

pub returns : goal.returns
returns c = minimum_rates_are_kept
