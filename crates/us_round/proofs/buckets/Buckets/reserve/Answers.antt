use Rattle.std.proofs.Common.{◌≡◌, ◌<◌, length, slice_index_or, ap, sym, ◌∙◌, arith}
use Rattle.std.proofs.lemmas.List.{length-map}
use Rattle.us_bucket.specs.Levels.{reserve_in}
use Rattle.us_bucket.specs.RoundBuckets.{level_in}
use Rattle.us_round.specs.Buckets.{levels_in}
use Rattle.us_round.proofs.BucketLemmas.{level_at, no_reserve}
use Rattle.us_round.proofs.buckets.Buckets.reserve.Goals as goal

pub returns-in-None : goal.returns-in-None
returns-in-None c d =
    let b = c.self.inside in
    let k = c.index.result.now in
    let told : levels_in b.ticks b.round b.kept.items ≡ c.args.self.now.levels = ap (λ b. b.levels) c.self.view_is in
    let inside : c.args.place < length b.kept.items =
    omega (arith, c.requires, ap length told, length-map b.kept.items (level_in b.ticks b.round)) in
    sym (ap (λ ls. reserve_in (slice_index_or ls c.args.place d)) (sym told)
    ∙ ap reserve_in (level_at b.ticks b.round c.args.place b.kept.items k d inside)
    ∙ ap (λ x. reserve_in (level_in b.ticks b.round x)) (sym c.index.ensures)
    ∙ no_reserve b.ticks b.round k (sym c.bytes.ensures ∙ c.in-None.is))
