use Rattle.us_round.proofs.BucketLemmas.{begun_is}
use Rattle.us_round.proofs.buckets.Buckets.begin.Goals as goal

pub returns : goal.returns
returns c =
    let b = c.self.inside in
    begun_is b.ticks b.round c.args.round b.kept.items c.args.self.now c.self.view_is c.requires.next c.self.invariant.before
