use Rattle.std.proofs.Common.{◌≡◌, ◌∙◌, length, ap, arith, rules}
use Rattle.us_holes.proofs.RankLemmas.{ranked_there, rank_length, rank_of_narrowed}
use Rattle.us_holes.proofs.RiseLemmas.{rank_in_rank}
use Rattle.us_holes.proofs.assigning.assign.Goals as goal

pub narrow-requires-clause-there : goal.narrow-requires-clause-there
narrow-requires-clause-there c =
    rw c.requires.by_rank
    (ranked_there c.args.holes.now.items c.args.place c.index-hole.result.now c.requires.has.inside (search rules))

pub narrow-requires-clause-order : goal.narrow-requires-clause-order
narrow-requires-clause-order c = rw c.requires.by_rank (rank_in_rank c.args.holes.now.items)

pub narrow-requires-clause-room : goal.narrow-requires-clause-room
narrow-requires-clause-room c =
    let len : length c.args.ranked.now.items ≡ length c.args.holes.now.items =
    ap (λ holes. length holes) c.requires.by_rank ∙ rank_length c.args.holes.now.items in
    omega (arith, len, c.requires.holes, c.requires.room.ranked)

pub returns-clause-by_rank : goal.returns-clause-by_rank
returns-clause-by_rank c =
    let narrow = rank_of_narrowed c.args.holes.now.items c.args.place c.args.one.start c.args.one.slots c.index-hole.result.now
    c.requires.has.inside (search rules) in
    c.narrow.ensures.items
    ∙ rw (c.requires.by_rank, c.narrow-2.ensures.items, c.start.ensures, c.slots.ensures, c.start-2.ensures, c.slots-2.ensures) narrow
