use Rattle.us_live.proofs.LogLemmas.{seats-feed}
use Rattle.us_live.proofs.laws.seats_feed.Goals as goal

pub returns : goal.returns
returns c = seats-feed
