use Rattle.std.proofs.Common.{Some, ◌∙◌, ap, refl}
use Rattle.us_holes.specs.Lists.{by_start}
use Rattle.us_holes.proofs.FoundLemmas.{begins_there}
use Rattle.us_holes.proofs.placed.beginning_at.Goals as goal

pub bounds-placed-numbers : goal.bounds-placed-numbers
bounds-placed-numbers c =
    let placed = c.args.placed.now in
    (begins_there c.args.start (by_start placed) placed c.args.numbers.now refl c.requires.kept c.requires.there).inside

pub returns : goal.returns
returns c =
    let placed = c.args.placed.now in
    let there = begins_there c.args.start (by_start placed) placed c.args.numbers.now refl c.requires.kept c.requires.there in
    ap (λ one. Some one) c.index-placed-numbers.is ∙ there.is c.index-placed-numbers.result
