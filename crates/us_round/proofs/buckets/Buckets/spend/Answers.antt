use Rattle.std.proofs.Common.{◌≡◌, ◌<◌, List, length, set, get_or, ap, ◌∙◌, sym, subst, arith, rules}
use Rattle.std.specs.Vec.{with_items}
use Rattle.std.proofs.lemmas.List.{length-map, places, with_items_is}
use Rattle.us_bucket.specs.Levels.{Has, spent}
use Rattle.us_bucket.specs.RoundBuckets.{Kept, level_in}
use Rattle.us_round.specs.Buckets.{levels_in}
use Rattle.us_round.proofs.BucketLemmas.{brought_level, spent_levels}
use Rattle.us_round.proofs.buckets.Buckets.spend.Goals as goal

pub spend-requires : goal.spend-requires
spend-requires c =
    let b = c.self.inside in
    let k = c.brought-bucket.result in
    let slice = c.as_mut_slice-kept.ensures.value in
    let told : levels_in b.ticks b.round c.as_mut_slice-kept.result.now ≡ c.args.self.now.levels =
    ap (levels_in b.ticks b.round) slice ∙ ap (λ b. b.levels) c.self.view_is in
    let inside : c.args.place < length c.as_mut_slice-kept.result.now =
    omega (arith, c.requires.place, ap length told, length-map c.as_mut_slice-kept.result.now (level_in b.ticks b.round)) in
    let level : k.level ≡ get_or c.args.self.now.levels c.args.place k.level =
    brought_level b.ticks b.round c.args.place c.as_mut_slice-kept.result.now k k.level inside c.brought-bucket.ensures.value
    ∙ ap (λ ls. get_or ls c.args.place k.level) told in
    subst (λ l. Has l c.args.bytes) (sym level) (c.requires.has k.level)

pub returns-clause-levels : goal.returns-clause-levels
returns-clause-levels c d =
    let b = c.self.inside in
    let slice = c.as_mut_slice-kept.ensures.value in
    let told : levels_in b.ticks b.round c.as_mut_slice-kept.result.now ≡ c.args.self.now.levels =
    ap (levels_in b.ticks b.round) slice ∙ ap (λ b. b.levels) c.self.view_is in
    let inside : c.args.place < length c.as_mut_slice-kept.result.now =
    omega (arith, c.requires.place, ap length told, length-map c.as_mut_slice-kept.result.now (level_in b.ticks b.round)) in
    let now : List Kept = set c.brought-bucket.new.kept c.args.place c.spend.new.self in
    let items : (with_items b.kept now).items ≡ now = with_items_is b.kept now (search (rules, places)) in
    ap (levels_in b.ticks b.round) items
    ∙ spent_levels b.ticks b.round c.args.place c.args.bytes c.as_mut_slice-kept.result.now c.brought-bucket.new.kept
    c.brought-bucket.result c.spend.new.self d inside c.brought-bucket.ensures.value c.brought-bucket.ensures.kept
    c.spend.ensures
    ∙ ap (λ ls. set ls c.args.place (spent c.args.bytes (get_or ls c.args.place d))) told
