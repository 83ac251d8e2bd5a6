use Rattle.std.proofs.Common.{◌+◌}
use Rattle.us_slots.proofs.RoundingLemmas.{ceil-fits, ceil-least}
use Rattle.us_requests.specs.Asks.{round_of_tick}
use Rattle.us_requests.proofs.laws.round_is_least.Goals as goal

pub returns : goal.returns
unfolding round_of_tick
returns c =
    λ t some tick round. (
      λ early. ceil-fits (tick + t.lead_ticks) t.round_ticks round some early,
      λ starts. ceil-least (tick + t.lead_ticks) t.round_ticks round some starts,
    )
