use Rattle.std.proofs.Common.{◌≡◌, map, take}
use Rattle.us_bucket.specs.RoundBuckets.{full_at_first}
use Rattle.us_round.proofs.buckets.Buckets.full_reserves.Given as goal

abbrev pub invariant-loop-flow : goal.invariant-loop-flow
invariant-loop-flow l = l.kept.items ≡ map (λ flow. full_at_first flow.min_rate flow.burst) (take l.flow-index l.flows)
