use Rattle.std.proofs.Common.{◌<◌, length, ap, ◌∙◌, arith, rules}
use Rattle.std.proofs.lemmas.List.{length-map, places, with_items_is}
use Rattle.us_bucket.specs.RoundBuckets.{level_in}
use Rattle.us_round.specs.Buckets.{levels_in}
use Rattle.us_round.proofs.BucketLemmas.{brought_same, told}
use Rattle.us_round.proofs.buckets.Buckets.bytes.Goals as goal

pub returns-clause-same : goal.returns-clause-same
returns-clause-same c =
    let b = c.self.inside in
    let slice = c.as_mut_slice-kept.ensures.value in
    let items = with_items_is b.kept c.brought.new.kept (search (rules, places)) in
    let inside : c.args.place < length c.as_mut_slice-kept.result.now =
    omega (arith, c.requires, ap (λ a. length a.levels) c.self.view_is, length-map b.kept.items (level_in b.ticks b.round), ap length slice) in
    ap (told b.ticks b.round) (ap (levels_in b.ticks b.round) items ∙
    brought_same b.ticks b.round c.args.place c.as_mut_slice-kept.result.now c.brought.new.kept c.brought.result inside
    c.brought.ensures.value c.brought.ensures.kept ∙ ap (levels_in b.ticks b.round) slice) ∙ c.self.view_is
