use Rattle.std.proofs.Common.{◌≡◌, map, take}
use Rattle.us_bucket.specs.RoundBuckets.{level_in}
use Rattle.us_round.proofs.buckets.Buckets.levels.Given as goal

abbrev pub invariant-loop-bucket : goal.invariant-loop-bucket
invariant-loop-bucket l =
    l.levels.items ≡ map (level_in l.self.ticks l.self.round) (take l.bucket-index l.bucket-items)
