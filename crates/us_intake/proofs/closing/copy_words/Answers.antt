use Rattle.std.proofs.Common.{arith}
use Rattle.std.specs.Mem.Slots.{slots_counts}
use Rattle.std.proofs.lemmas.Option.{get_or_from_slice_get}
use Rattle.us_intake.proofs.SumLemmas.{item_at}
use Rattle.us_intake.proofs.TallyLemmas.{copied, same_tally}
use Rattle.us_intake.proofs.closing.copy_words.Goals as goal

pub loop-at-preserved : goal.loop-at-preserved
loop-at-preserved c =
    let items = c.args.table.now.words.items in
    let here = item_at items c.loop-at.at c.word.result c.word.ensures in
    copied c.loop-at.left items c.loop-at.at c.word.result c.loop-at.invariant (omega (
      arith,
      c.loop-at-test.true,
      c.loop-at.auto.left,
    ))
    (get_or_from_slice_get items c.loop-at.at c.word.result 0 here)

pub returns : goal.returns
returns c =
    let counts = slots_counts c.args.table.now.words in
    same_tally c.loop-at.left c.args.table.now.words.items (omega (
      arith,
      c.loop-at.auto.left,
      c.requires.row,
      counts.0,
    ))
    (λ k lt. c.loop-at.invariant k (omega (arith, lt, c.loop-at-test.false)))
