use Rattle.std.proofs.Common.{◌+◌, ◌<◌, ap, subst, sym, ◌∙◌, arith}
use Rattle.std.specs.Prelude.{slice_index}
use Rattle.us_requests.specs.Cuts.{asked}
use Rattle.us_credit_rules.proofs.LedgerLemmas.{round_asked, round_fits}
use Rattle.us_credit_rules.proofs.ledgers.ask_rounds.Goals as goal

pub ask_all-requires : goal.ask_all-requires
ask_all-requires c = λ word inside.
    subst (λ asks. slice_index c.loop-round.sums word + asked asks word < 18446744073709551616) (sym c.asks.ensures.value)
    (round_fits c.args.trace.now c.loop-round.round word c.loop-round.sums c.asks.ensures.lawful c.loop-round.invariant inside)

pub loop-round-preserved : goal.loop-round-preserved
loop-round-preserved c =
    round_asked c.args.trace.now c.loop-round.round c.loop-round.sums c.ask_all.new.sums
    (omega (arith, c.loop-round-test.true, c.requires.inside)) c.ask_all.auto.sums c.loop-round.invariant
    (λ word inside. c.ask_all.ensures word inside
    ∙ ap (λ asks. slice_index c.loop-round.sums word + asked asks word) c.asks.ensures.value)
