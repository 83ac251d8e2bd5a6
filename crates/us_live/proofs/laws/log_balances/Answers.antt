use Rattle.us_live.proofs.LogLemmas.{log-balances}
use Rattle.us_live.proofs.laws.log_balances.Goals as goal

pub returns : goal.returns
returns c = log-balances
