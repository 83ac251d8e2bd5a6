use Rattle.std.proofs.Common.{false, ◌<◌, ◌+◌, ◌^◌, length, sym, ap, subst, ◌∙◌, arith, rules}
use Rattle.us_requests.specs.Traces.{cuts_in}
use Rattle.us_replay.specs.Endings.{ending_of}
use Rattle.us_replay.specs.Replays.{KeptLimits}
use Rattle.us_replay.specs.Progress.{Along, CanMake, Ended, Holds, output_in}
use Rattle.us_replay.proofs.ReplayStopLemmas.{flush-stops, flushed-all, passed-on}
use Rattle.us_replay.proofs.HeldLemmas.{holds-none}
use Rattle.us_replay.proofs.LoopLemmas.{all-made, along-opening, can-make, ends-at-once, next-took, one-more, sent-ends, wanting-ends}
use Rattle.us_replay.proofs.replays.run_by.Goals.{then-is_full+in_ok-send, else-is_full}
use Rattle.us_replay.proofs.replays.run_by.Goals as goal

pub returns-in_default : goal.returns-in_default
returns-in_default g c = (ends-at-once c.args.config.now c.args.trace.now _ _ false c.opened.ensures.lawful, tt, search rules)

pub loop-done-init : goal.loop-done-init
loop-done-init g c =
    let along : Along c.args.config.now c.args.trace.now 0 c.in-Ok.state c.args.progress.now =
    along-opening c.args.config.now c.args.trace.now c.in-Ok.state c.args.progress.now c.opened.ensures.lawful
    c.in-Ok.ensures.value c.requires.opening in
    let holds : Holds (output_in c.args.config.now c.args.trace.now) 0 0 c.args.progress.now.batch =
    subst (λ p. Holds (output_in c.args.config.now c.args.trace.now) 0 0 p.batch) (sym c.requires.opening)
    (holds-none (output_in c.args.config.now c.args.trace.now) 0) in
    search rules

pub make_round-requires : goal.make_round-requires
make_round-requires g c =
    let ready : CanMake c.loop-done.state c.loop-done.progress c.asks-asks.result.now =
    can-make c.args.config.now c.args.trace.now c.loop-done.done c.loop-done.state c.loop-done.progress
    c.asks-asks.result.now c.loop-done.invariant.0 c.loop-done.invariant.1 c.requires.ready.0.fits
    (omega (arith, c.loop-done-test.true, c.rounds-rounds.ensures.value))
    (c.requires.ready.0.known c.loop-done.done) c.asks-asks.ensures.value in
    let knows : g.D.Hands.knows c.loop-done.doers c.loop-done.state.tables =
    subst (λ t. g.D.Hands.knows c.loop-done.doers t) (sym c.loop-done.invariant.1.tables) c.loop-done.invariant.5 in
    search rules

pub returns-in_default-make_round : goal.returns-in_default-make_round
returns-in_default-make_round g c = (
  wanting-ends c.args.config.now c.args.trace.now c.loop-done.sent c.loop-done.done c.loop-done.state c.loop-done.progress
      false _ _ c.loop-done.invariant.1 c.loop-done.invariant.8 c.loop-done.invariant.2,
  tt,
  search rules,
)

pub send-requires-clause-few : goal.send-requires-clause-few
send-requires-clause-few g c =
    let more =
    one-more c.args.config.now c.args.trace.now c.loop-done.sent c.loop-done.done c.loop-done.state c.in-Ok-make_round.next
    c.loop-done.progress c.make_round.new.progress c.loop-done.invariant.0 c.loop-done.invariant.1 c.loop-done.invariant.8
    (rw c.rounds-rounds.ensures.value at c.loop-done-test.true) (rw c.asks-asks.ensures.value at c.in-Ok-make_round.ensures.made) in
    let fits : c.rounds-rounds.result < 2 ^ 32 = search rules in
    omega (arith, more.held.few, ap (λ b. length b.ends) c.batch-then-is_full.ensures, c.loop-done-test.true, fits)

pub send-requires-clause-inside : goal.send-requires-clause-inside
send-requires-clause-inside g c =
    let more =
    one-more c.args.config.now c.args.trace.now c.loop-done.sent c.loop-done.done c.loop-done.state c.in-Ok-make_round.next
    c.loop-done.progress c.make_round.new.progress c.loop-done.invariant.0 c.loop-done.invariant.1 c.loop-done.invariant.8
    (rw c.rounds-rounds.ensures.value at c.loop-done-test.true) (rw c.asks-asks.ensures.value at c.in-Ok-make_round.ensures.made) in
    rw c.batch-then-is_full.ensures more.held.ends_inside

pub returns-in_err-send : goal.returns-in_err-send
returns-in_err-send g c =
    let more =
    one-more c.args.config.now c.args.trace.now c.loop-done.sent c.loop-done.done c.loop-done.state c.in-Ok-make_round.next
    c.loop-done.progress c.make_round.new.progress c.loop-done.invariant.0 c.loop-done.invariant.1 c.loop-done.invariant.8
    (rw c.rounds-rounds.ensures.value at c.loop-done-test.true) (rw c.asks-asks.ensures.value at c.in-Ok-make_round.ensures.made) in
    subst (Ended _ _ _ _) (sym (passed-on c.from_residual.result c.from_residual.ensures.1)) (
      sent-ends c.args.config.now c.args.trace.now c.loop-done.sent (c.loop-done.done + 1) c.make_round.new.progress.batch
          _ _ _ _ _ _ _ c.in_err-send.field-0.0 more.held c.loop-done.invariant.2 more.along.limits
          (rw c.batch-then-is_full.ensures at c.in_err-send.ensures.sent),
      tt,
      search rules,
    )

pub loop-done-preserved : goal.loop-done-preserved
loop-done-preserved g c =
    let more =
    one-more c.args.config.now c.args.trace.now c.loop-done.sent c.loop-done.done c.loop-done.state c.in-Ok-make_round.next
    c.loop-done.progress c.make_round.new.progress c.loop-done.invariant.0 c.loop-done.invariant.1 c.loop-done.invariant.8
    (rw c.rounds-rounds.ensures.value at c.loop-done-test.true) (rw c.asks-asks.ensures.value at c.in-Ok-make_round.ensures.made) in
    let knows = c.make_round.ensures.same _ c.loop-done.invariant.5 in
    elim c.if-is_full.branch [
      | then-is_full+in_ok-send w ↦
          let took =
          next-took c.args.config.now c.args.trace.now c.loop-done.sent (c.loop-done.done + 1) c.make_round.new.progress.batch
          _ _ _ _ _ _ more.holds more.along.within c.loop-done.invariant.2
          (rw w.batch-then-is_full.ensures at w.in_ok-send.ensures.sent.0) (rw w.batch-then-is_full.ensures at w.in_ok-send.ensures.sent.1) in
          rw (w.progress-is, w.maps-is, w.report-is, w.sent-is, w.begin_batch.ensures) (
            c.loop-done.invariant.0,
            more.along,
            took,
            w.in_ok-send.ensures.ready.0,
            w.in_ok-send.ensures.ready.1,
            knows,
            λ before. w.in_ok-send.ensures.maps_still_unflushed (c.loop-done.invariant.6 before),
            λ before. w.in_ok-send.ensures.report_still_unflushed (c.loop-done.invariant.7 before),
            holds-none (output_in c.args.config.now c.args.trace.now) (c.loop-done.done + 1),
          )
      | else-is_full w ↦ rw (w.progress-is, w.maps-is, w.report-is, w.sent-is) (
        c.loop-done.invariant.0,
        more.along,
        c.loop-done.invariant.2,
        c.loop-done.invariant.3,
        c.loop-done.invariant.4,
        knows,
        c.loop-done.invariant.6,
        c.loop-done.invariant.7,
        more.holds,
      )
    ]

pub returns-in_default-take_last : goal.returns-in_default-take_last
returns-in_default-take_last g c = (
  wanting-ends c.args.config.now c.args.trace.now c.loop-done.sent c.loop-done.done c.loop-done.state c.loop-done.progress
      false _ _ c.loop-done.invariant.1 c.loop-done.invariant.8 c.loop-done.invariant.2,
  tt,
  search rules,
)

pub send-requires-2-clause-few : goal.send-requires-2-clause-few
send-requires-2-clause-few g c =
    let all =
    all-made c.args.config.now c.args.trace.now c.loop-done.sent c.loop-done.done c.rounds-rounds.result c.loop-done.state
    c.loop-done.progress c.take_last.new.self c.counts.result c.loop-done.invariant.1 c.loop-done.invariant.8 c.loop-done-test.false
    c.rounds-rounds.ensures.value c.counts.ensures.value c.in-Ok-take_last.ensures.progress in
    let fits : c.rounds-rounds.result < 2 ^ 32 = search rules in
    omega (arith, all.held.few, ap (λ b. length b.ends) c.batch-2.ensures, fits)

pub send-requires-2-clause-inside : goal.send-requires-2-clause-inside
send-requires-2-clause-inside g c =
    let all =
    all-made c.args.config.now c.args.trace.now c.loop-done.sent c.loop-done.done c.rounds-rounds.result c.loop-done.state
    c.loop-done.progress c.take_last.new.self c.counts.result c.loop-done.invariant.1 c.loop-done.invariant.8 c.loop-done-test.false
    c.rounds-rounds.ensures.value c.counts.ensures.value c.in-Ok-take_last.ensures.progress in
    rw c.batch-2.ensures all.held.ends_inside

pub returns-in_err-send-2 : goal.returns-in_err-send-2
returns-in_err-send-2 g c =
    let all =
    all-made c.args.config.now c.args.trace.now c.loop-done.sent c.loop-done.done c.rounds-rounds.result c.loop-done.state
    c.loop-done.progress c.take_last.new.self c.counts.result c.loop-done.invariant.1 c.loop-done.invariant.8 c.loop-done-test.false
    c.rounds-rounds.ensures.value c.counts.ensures.value c.in-Ok-take_last.ensures.progress in
    subst (Ended _ _ _ _) (sym (passed-on c.from_residual-in_err-send-2.result c.from_residual-in_err-send-2.ensures.1)) (
      sent-ends c.args.config.now c.args.trace.now c.loop-done.sent c.rounds-rounds.result c.take_last.new.self.batch
          _ _ _ _ _ _ _ c.in_err-send-2.field-0.0 all.held c.loop-done.invariant.2 all.limits
          (rw c.batch-2.ensures at c.in_err-send-2.ensures.sent),
      tt,
      search rules,
    )

pub returns-in_err-flush : goal.returns-in_err-flush
returns-in_err-flush g c =
    let all =
    all-made c.args.config.now c.args.trace.now c.loop-done.sent c.loop-done.done c.rounds-rounds.result c.loop-done.state
    c.loop-done.progress c.take_last.new.self c.counts.result c.loop-done.invariant.1 c.loop-done.invariant.8 c.loop-done-test.false
    c.rounds-rounds.ensures.value c.counts.ensures.value c.in-Ok-take_last.ensures.progress in
    let sent = rw c.batch-2.ensures at c.in_ok-send-2.ensures.sent in
    let took = all.took _ _ _ _ _ _ c.loop-done.invariant.2 sent.0 sent.1 in
    subst (Ended _ _ _ _) (sym (passed-on c.from_residual-in_err-flush.result c.from_residual-in_err-flush.ensures.1)) (
      flush-stops c.args.config.now c.args.trace.now c.rounds-rounds.result _ _ _ _ _ _ _ (ending_of c.in_err-flush.field-0.0)
          all.long all.limits took c.in_err-flush.ensures.flushed,
      tt,
      search rules,
    )

pub returns : goal.returns
returns g c =
    let all =
    all-made c.args.config.now c.args.trace.now c.loop-done.sent c.loop-done.done c.rounds-rounds.result c.loop-done.state
    c.loop-done.progress c.take_last.new.self c.counts.result c.loop-done.invariant.1 c.loop-done.invariant.8 c.loop-done-test.false
    c.rounds-rounds.ensures.value c.counts.ensures.value c.in-Ok-take_last.ensures.progress in
    let sent = rw c.batch-2.ensures at c.in_ok-send-2.ensures.sent in
    let took = all.took _ _ _ _ _ _ c.loop-done.invariant.2 sent.0 sent.1 in
    let both =
    flushed-all (output_in c.args.config.now c.args.trace.now) _ _ _ _ _ _ took c.in_ok-flush.ensures.flushed.0 c.in_ok-flush.ensures.flushed.1 in
    let told = rw (c.counts-2.ensures.value, ← c.counts.ensures.value) at c.summary.ensures in (
      (
        (both.0, both.1, told ∙ all.summary),
        subst (λ s. KeptLimits c.args.config.now (cuts_in c.args.config.now c.args.trace.now) s.rounds) (sym told) all.limits,
      ),
      all.lawful c.requires.ready.0.fits c.in-Ok-take_last.ensures.fields,
      search rules,
    )
