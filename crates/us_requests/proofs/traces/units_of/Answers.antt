use Rattle.std.proofs.Common.{◌≡◌, length, vec_len, arith}
use Rattle.us_requests.specs.Outcomes.{units_of}
use Rattle.us_requests.proofs.AskLemmas.{few-more, units-more}
use Rattle.us_requests.proofs.traces.units_of.Goals as goal

pub overflow_add-len : goal.overflow_add-len
overflow_add-len c =
    let within = rw c.flows-flow-items.ensures.value at c.loop-flow-test.true in
    let here = rw c.flows-flow-items.ensures.value at c.flow-item.is in
    let few = few-more c.args.config.now c.loop-flow.flow-index c.flow-item.result c.flows-flow-items.ensures.lawful within
    here in
    omega (arith, few, c.words.ensures.value, c.len.ensures, c.loop-flow.units.small)

pub loop-flow-preserved : goal.loop-flow-preserved
loop-flow-preserved c =
    let l = c.loop-flow in
    let flows = c.args.config.now.flows in
    let flow = c.flow-item.result in
    let within = rw c.flows-flow-items.ensures.value at c.loop-flow-test.true in
    let here = rw c.flows-flow-items.ensures.value at c.flow-item.is in
    let size : c.len.result ≡ length l.units.items = omega (arith, c.len.ensures, l.units.ok.0) in
    units-more l.units.items c.resize.new.self.items (units_of c.args.config.now) flows l.flow-index c.len.result
    (vec_len l.units) c.words.result c.unit.result flow within here size (omega (arith, l.units.ok.0))
    c.words.ensures.value c.unit.ensures.value c.in_ok-resize.ensures.items l.invariant
