use Rattle.std.proofs.Common.{◌≡◌, Some, false, length, refl, ap, sym, ◌∙◌}
use Rattle.std.specs.Prelude.{slice_get}
use Rattle.std.proofs.lemmas.Option.{slice_get_read}
use Rattle.us_lawful.specs.Runs.{run_in}
use Rattle.us_reports.specs.Breaches.{IsFirstFailure}
use Rattle.us_reports.proofs.BreachLemmas.{all_done, one_more}
use Rattle.us_credit_rules.proofs.RuleLemmas.{rate_first, rate_test, rates_first}
use Rattle.us_credit_rules.proofs.rates.rates_breach.Goals as goal

pub loop-place-init : goal.loop-place-init
loop-place-init c = λ v judged are p fails. fails

pub loop-place-preserved : goal.loop-place-preserved
loop-place-preserved c = λ v judged are.
    let t = c.args.config.now in
    let flow = c.flow-item.result in
    let flows = c.flows-flow-items.result.now in
    let i = c.loop-place.place in
    let at : slice_get t.flows i ≡ Some flow =
    ap (λ these. slice_get these i) (sym c.flows-flow-items.ensures.value)
    ∙ slice_get_read flows (length flows) i flow refl c.loop-place-test.true c.flow-item.is in
    let one : IsFirstFailure t.channels (λ p. rate_test (run_in t v) judged flow p ≡ false) c.flow_breach.result =
    rw (c.flow_breach.ensures, c.account_of-account.ensures, c.deref.ensures.value)
    (rate_first t.channels t v judged c.args.lines.now i flow c.flows-flow-items.ensures.lawful at are) in
    rw (c.earlier-first.ensures, c.channels.ensures.value)
    (one_more t.channels (λ flow p. rate_test (run_in t v) judged flow p ≡ false) flows i flow flow c.loop-place.first
    c.flow_breach.result c.loop-place-test.true c.flow-item.is (c.loop-place.invariant v judged are) one)

pub returns : goal.returns
returns c = λ v judged are.
    let t = c.args.config.now in
    rates_first t.channels (run_in t v) judged c.loop-place.first
    (rw c.flows-flow-items.ensures.value at (
    all_done t.channels (λ flow p. rate_test (run_in t v) judged flow p ≡ false) c.flows-flow-items.result.now
    c.loop-place.place c.loop-place.first c.loop-place-test.false (c.loop-place.invariant v judged are)))
