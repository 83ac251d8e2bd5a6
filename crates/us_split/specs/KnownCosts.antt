-- Inside the crate: what data grants on a channel cost, where that was reckoned before.
use Rattle.std.specs.Prelude.{◌≡◌, ℕ, List, length}
use Rattle.std.specs.List.{All}
use Rattle.us_slots.specs.Bursts.{ChannelBursts, grant_cost}
use Rattle.us_split.specs.declared.known_costs.KnownCost.{KnownCost}

-- minislots and IUC are those of a grant of these bytes
abbrev pub IsCost : ChannelBursts → KnownCost → Type 0
IsCost b cost = (cost.slots, cost.iuc) ≡ grant_cost b cost.bytes

-- at how many places costs stand
abbrev pub kept_costs : ℕ
kept_costs = 2048

-- the costs at these places
pub record AreCosts (b : ChannelBursts) (costs : List KnownCost) : Type 0 where
  pub each : All (IsCost b) costs
  pub count : length costs ≡ kept_costs
