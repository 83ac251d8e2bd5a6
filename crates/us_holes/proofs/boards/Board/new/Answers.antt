use Rattle.us_holes.proofs.KeptLemmas.{empty_kept}
use Rattle.us_holes.proofs.boards.Board.new.Goals as goal

pub invariant_of-result : goal.invariant_of-result
invariant_of-result c = (
  rw (c.in_ok-assigned.ensures, c.in_ok-holes.ensures.items, c.in_ok-ranked.ensures.items)
      (empty_kept c.args.len c.requires.some c.requires.most),
  record {
    holes = c.in_ok-holes.ensures.room;
    ranked = c.in_ok-ranked.ensures.room;
  },
)
