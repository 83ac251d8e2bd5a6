use Rattle.std.proofs.Common.{replicate, refl, ap, sym, ◌∙◌, arith}
use Rattle.us_intake.specs.Seats.{Intake}
use Rattle.us_requests.specs.Cuts.{cut_of}
use Rattle.us_replay.proofs.TakingLemmas.{all-taken, none-taken, taken-fits, taken-more}
use Rattle.us_replay.proofs.collecting.take_asked.Goals as goal

pub loop-ask-init : goal.loop-ask-init
loop-ask-init c =
    none-taken c.args.seat.now c.args.asks.now c.args.cut.now.items c.requires.due
    (c.requires.clear ∙ ap (λ (i : Intake). replicate i.clusters 0) (sym c.requires.own))

pub overflow_add-index_mut : goal.overflow_add-index_mut
overflow_add-index_mut c =
    omega (
      arith,
      taken-fits c.args.seat.now c.loop-ask.seat c.take.new.seat c.args.asks.now c.loop-ask.ask-index c.from.result _
          c.index_mut.result.now c.take.result c.loop-ask.cut.items _ c.requires.due c.loop-ask.invariant
          c.loop-ask-test.true refl c.from.ensures c.index_mut.ensures.value c.take.ensures.seat c.take.ensures.known,
    )

pub loop-ask-preserved : goal.loop-ask-preserved
loop-ask-preserved c =
    taken-more c.args.seat.now c.loop-ask.seat c.take.new.seat c.args.asks.now c.loop-ask.ask-index c.from.result _
    c.index_mut.result.now c.take.result c.loop-ask.cut.items _ c.requires.due c.loop-ask.invariant
    c.loop-ask-test.true refl c.from.ensures c.index_mut.ensures.value c.take.ensures.seat c.take.ensures.whole

pub returns-clause-cut : goal.returns-clause-cut
returns-clause-cut c =
    (all-taken c.args.seat.now c.loop-ask.seat c.args.asks.now c.loop-ask.ask-index c.loop-ask.cut.items c.requires.due
    c.loop-ask.invariant (omega (arith, c.loop-ask-test.false, c.loop-ask.auto.ask-index-end))).0
    ∙ ap (λ (i : Intake). cut_of i.clusters c.args.asks.now) c.requires.own

pub returns-clause-seat : goal.returns-clause-seat
returns-clause-seat c =
    (all-taken c.args.seat.now c.loop-ask.seat c.args.asks.now c.loop-ask.ask-index c.loop-ask.cut.items c.requires.due
    c.loop-ask.invariant (omega (arith, c.loop-ask-test.false, c.loop-ask.auto.ask-index-end))).1
