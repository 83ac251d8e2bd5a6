use Rattle.us_slots.proofs.CostLemmas.{burst_cost-mono}
use Rattle.us_slots.proofs.costs.cost.Goals as goal

pub returns-clause-never_falls : goal.returns-clause-never_falls
returns-clause-never_falls c = λ a b h. burst_cost-mono c.args.time.now c.args.profile.now a b c.bits.ensures.in_range h
