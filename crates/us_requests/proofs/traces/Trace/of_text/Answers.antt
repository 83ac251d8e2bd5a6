use Rattle.std.proofs.Common.{ap, sym, ◌∙◌}
use Rattle.us_requests.specs.Texts.{requests_of, trace_fault}
use Rattle.us_requests.proofs.TraceLemmas.{lawful-trace, trace-of}
use Rattle.us_requests.proofs.traces.Trace.of_text.Goals as goal

pub invariant_of-result : goal.invariant_of-result
invariant_of-result c =
    let sound = rw (← c.deref-2.ensures.value) at c.in_ok-requests.ensures.2 in
    lawful-trace c.args.config.now c.args.rounds c.deref-2.result.now c.in_ok-filed.filed.asks.items c.in_ok-new.field-0
    c.in_ok-filed.filed.counts c.in_ok-filed.ensures.lawful sound c.in_ok-filed.ensures.filed c.in_ok-new.ensures.rounds

pub returns : goal.returns
returns c =
    let told = c.deref-2.ensures.value ∙ c.in_ok-requests.ensures.1 ∙ ap requests_of c.deref.ensures.value in
    let is = trace-of c.args.config.now c.args.rounds c.deref-2.result.now c.in_ok-filed.filed.asks.items
    c.in_ok-new.field-0 c.in_ok-filed.filed.counts c.in_ok-filed.ensures.filed c.in_ok-new.ensures.rounds in (
      ap trace_fault (sym c.deref.ensures.value) ∙ c.in_ok-requests.ensures.0,
      rw told at is,
    )
