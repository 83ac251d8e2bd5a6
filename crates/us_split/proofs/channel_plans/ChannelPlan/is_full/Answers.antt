use Rattle.std.proofs.Common.{◌≡◌, true, nat_eq, arith}
use Rattle.std.proofs.lemmas.Bool.{OnTrue_from, eqb-true}
use Rattle.us_split.specs.PartialPlans.{IsFull}
use Rattle.us_split.proofs.channel_plans.ChannelPlan.is_full.Goals as goal

pub returns : goal.returns
returns c =
    OnTrue_from _ (IsFull c.args.self.now) (λ (none : nat_eq c.carried.result 0 ≡ true). record {
      carries = omega (arith, c.carried.ensures.value, eqb-true c.carried.result 0 none);
      within = c.carried.ensures.within;
    })
