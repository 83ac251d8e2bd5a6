use Rattle.std.proofs.Common.{◌-◌, sym, ap, ◌∙◌}
use Rattle.us_bucket.specs.RoundBuckets.{level_in}
use Rattle.us_bucket.proofs.RoundLemmas.{rounds-are-one}
use Rattle.us_bucket.proofs.round_buckets.RoundBucket.level_in.Goals as goal

pub returns : goal.returns
returns c =
    let rounds = c.args.round - c.self.inside.as_of in
    let one = rounds-are-one c.args.ticks rounds c.self.inside.bucket c.refill.ensures.known in
    c.refill.ensures.value ∙ sym one ∙ ap (λ kept. level_in c.args.ticks c.args.round kept) c.self.view_is
