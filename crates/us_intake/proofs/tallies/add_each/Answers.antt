use Rattle.std.proofs.Common.{slice_index, ap, sym, ◌∙◌, arith}
use Rattle.us_intake.specs.Tallies.{raised}
use Rattle.us_intake.proofs.TallyLemmas.{added-nil, next_le, raised-next}
use Rattle.us_intake.proofs.tallies.add_each.Goals as goal

pub loop-at-init : goal.loop-at-init
loop-at-init c = sym (added-nil c.args.tally.now)

pub overflow_add-tally : goal.overflow_add-tally
overflow_add-tally c =
    omega (
      arith,
      next_le c.args.tally.now c.args.other.now c.loop-at.at,
      ap (λ t. slice_index t c.loop-at.at) c.loop-at.invariant,
      c.requires.fits,
    )

pub loop-at-preserved : goal.loop-at-preserved
loop-at-preserved c =
    ap (λ t. raised t c.loop-at.at (slice_index c.args.other.now c.loop-at.at)) c.loop-at.invariant
    ∙ raised-next c.args.tally.now c.args.other.now c.loop-at.at (omega (
      arith,
      c.requires.row,
      c.loop-at-test.true,
    )) c.loop-at-test.true
