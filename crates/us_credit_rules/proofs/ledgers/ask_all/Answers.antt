use Rattle.std.proofs.Common.{[], refl, subst, ◌∙◌, arith}
use Rattle.std.proofs.lemmas.List.{drop_all}
use Rattle.us_requests.specs.declared.asks.Ask.{Ask}
use Rattle.us_credit_rules.proofs.LedgerLemmas.{AskedWith, ask_fits, one_asked}
use Rattle.us_credit_rules.proofs.ledgers.ask_all.Goals as goal

abbrev ask_default : Ask
ask_default = record { cluster = 0; bytes = 0 }

pub loop-ask-init : goal.loop-ask-init
loop-ask-init c = record { long = refl; asked = λ word inside. refl }

pub put_ask-requires : goal.put_ask-requires
put_ask-requires c =
    ask_fits c.args.sums.now c.loop-ask.sums c.args.asks.now c.loop-ask.ask-index ask_default c.loop-ask-test.true
    c.loop-ask.invariant.long c.requires c.loop-ask.invariant.asked

pub loop-ask-preserved : goal.loop-ask-preserved
loop-ask-preserved c = record {
  long = c.put_ask.auto.sums ∙ c.loop-ask.invariant.long;
  asked = one_asked c.args.sums.now c.loop-ask.sums c.put_ask.new.sums c.args.asks.now c.loop-ask.ask-index
      ask_default c.loop-ask-test.true c.loop-ask.invariant.long c.loop-ask.invariant.asked c.put_ask.ensures;
}

pub returns : goal.returns
returns c = λ word inside.
    let all : AskedWith c.args.sums.now c.args.asks.now c.loop-ask.sums [] =
    subst (AskedWith c.args.sums.now c.args.asks.now c.loop-ask.sums)
    (drop_all c.loop-ask.ask-index c.args.asks.now c.loop-ask-test.false) c.loop-ask.invariant.asked in
    omega (arith, all word inside)
