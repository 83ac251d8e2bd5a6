use Rattle.std.proofs.Common.{◌≡◌, ap, sym, subst, ◌∙◌, Some, length}
use Rattle.us_steps.specs.Tallies.{run, opening_tally}
use Rattle.us_steps.specs.Tallies.{IsReady}
use Rattle.us_steps.proofs.StepLemmas.{complete, incomplete}
use Rattle.us_steps.proofs.CutLemmas.{IsEnd, run_end_is}
use Rattle.us_steps.proofs.PlayLemmas.{opening-sized, opening-ready, end-cut, end-words}
use Rattle.us_steps.proofs.tallies.tallied.Goals as goal

pub walk-requires : goal.walk-requires
walk-requires c =
    subst (λ l. IsReady c.args.rows.now l) (sym c.in_ok-tally.ensures)
    (opening-ready c.args.words.now c.args.rows.now c.args.channels c.requires.rows c.requires.room)

pub returns-then-walk : goal.returns-then-walk
returns-then-walk c =
    let rows = c.args.rows.now in
    let words = c.args.words.now in
    let steps = c.args.steps.now in
    let end = c.walk.new.tally in
    let made : run rows (opening_tally words (length rows) c.args.channels) steps ≡ Some end =
    ap (λ l. run rows l steps) (sym c.in_ok-tally.ensures) ∙ rw c.if-walk.true at c.walk.ensures in
    let is : IsEnd rows (opening_tally words (length rows) c.args.channels) end steps =
    run_end_is rows (opening_tally words (length rows) c.args.channels) end steps
    (opening-sized words rows c.args.channels c.requires.rows) made in (
      complete rows words c.args.channels end steps made,
      c.into_parts.ensures.cut ∙ end-cut rows words c.args.channels end steps is,
      c.into_parts.ensures.words ∙ end-words rows words c.args.channels end steps is,
    )

pub returns-else-walk : goal.returns-else-walk
returns-else-walk c =
    incomplete c.args.rows.now c.args.words.now c.args.channels c.args.steps.now
    (ap (λ l. run c.args.rows.now l c.args.steps.now) (sym c.in_ok-tally.ensures) ∙ rw c.if-walk.false at c.walk.ensures)
