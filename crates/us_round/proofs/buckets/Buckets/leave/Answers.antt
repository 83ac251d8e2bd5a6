use Rattle.std.proofs.Common.{ap, set, sym, slice_index_or, ◌-◌, ◌∙◌, arith}
use Rattle.us_bucket.specs.Levels.{full}
use Rattle.us_bucket.proofs.LevelLemmas.{has_reserved}
use Rattle.us_round.proofs.BucketLemmas.{set_same}
use Rattle.us_round.proofs.ReserveLemmas.{left-all}
use Rattle.us_round.proofs.buckets.Buckets.leave.Goals as goal

pub spend-requires-clause-has : goal.spend-requires-clause-has
spend-requires-clause-has c d =
    has_reserved (slice_index_or c.args.self.now.levels c.args.place d) (c.reserve-reserve.result - c.args.left)
    (omega (arith, c.reserve-reserve.ensures d))

pub returns-else-left-reserve-clause-levels : goal.returns-else-left-reserve-clause-levels
returns-else-left-reserve-clause-levels c =
    let levels = c.args.self.now.levels in
    sym (ap (set levels c.args.place) (left-all c.args.left (slice_index_or levels c.args.place (full 0 0))
    (omega (arith, c.if-left-reserve.false, c.reserve-reserve.ensures (full 0 0))))
    ∙ set_same levels c.args.place (full 0 0) c.requires)
