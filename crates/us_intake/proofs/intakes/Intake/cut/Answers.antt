use Rattle.std.proofs.Common.{length, ap, subst, ◌∙◌, arith}
use Rattle.us_intake.specs.Seats.{Intake, Seat, IsSeat}
use Rattle.us_intake.proofs.CutLemmas.{cut_none, cut_more, cut_all, cut_least, cut_whole}
use Rattle.us_intake.proofs.intakes.Intake.cut.Goals as goal

pub loop-at-init : goal.loop-at-init
loop-at-init c =
    let known = subst (λ s. IsSeat s) c.seat.view_is c.seat.invariant.known in
    let clusters = ap (λ (i : Intake). i.clusters) c.requires.own in (
      omega (
        arith,
        c.len-at-end.ensures,
        c.seat.inside.taken.ok,
        ap length (c.seat.invariant.same_taken (c.seat.invariant.same_takes
            ∙ ap (λ (s : Seat). s.takes) c.seat.view_is ∙ c.requires.takes)),
        c.seat.invariant.known.taken_row,
        ap (λ (s : Seat). s.intake.clusters) c.seat.view_is,
        clusters,
      ),
      cut_none c.args.seat.now c.args.cuts.now known,
    )

pub loop-at-preserved : goal.loop-at-preserved
loop-at-preserved c =
    let clusters = ap (λ (i : Intake). i.clusters) c.requires.own in
    let took = c.take.ensures in (
      c.loop-at.invariant.0,
      cut_more c.args.seat.now c.loop-at.seat c.take.new.seat c.loop-at.at c.take.result c.loop-at.cuts
          c.loop-at.invariant.1
          (omega (arith, c.loop-at-test.true, c.loop-at.invariant.0, clusters))
          (omega (arith, c.loop-at.auto.cuts, c.requires.row, clusters))
          (took.seat, took.known, took.least, took.whole),
    )

pub returns-clause-seat : goal.returns-clause-seat
returns-clause-seat c =
    cut_all c.args.seat.now c.loop-at.seat c.loop-at.at c.loop-at.cuts c.loop-at.invariant.1
    (omega (arith, c.loop-at-test.false, c.loop-at.auto.cuts, c.requires.row, c.loop-at.invariant.0))

pub returns-clause-least : goal.returns-clause-least
returns-clause-least c =
    cut_least c.args.seat.now c.loop-at.seat c.loop-at.at c.loop-at.cuts c.loop-at.invariant.1
    (omega (
      arith,
      c.loop-at-test.false,
      c.loop-at.auto.at-end,
      c.loop-at.invariant.0,
      ap (λ (i : Intake). i.clusters) c.requires.own,
      ap (λ (s : Seat). s.intake.clusters)
          c.loop-at.invariant.1.same,
    ))

pub returns-clause-whole : goal.returns-clause-whole
returns-clause-whole c =
    cut_whole c.args.seat.now c.loop-at.seat c.loop-at.at c.loop-at.cuts c.loop-at.invariant.1
    (omega (
      arith,
      c.loop-at-test.false,
      c.loop-at.auto.at-end,
      c.loop-at.invariant.0,
      ap (λ (i : Intake). i.clusters) c.requires.own,
      ap (λ (s : Seat). s.intake.clusters)
          c.loop-at.invariant.1.same,
    ))
