use Rattle.std.proofs.Common.{◌≡◌, length, refl, ap, arith}
use Rattle.us_codec.proofs.PutLemmas.{front-put, element-put, all-put, length-spelling}
use Rattle.us_codec.proofs.BodyLemmas.{one_body}
use Rattle.us_codec.proofs.encoding.encode_into.Goals as goal

pub loop-element-init : goal.loop-element-init
loop-element-init c =
    let map = c.args.map.now in
    let es = c.elements-elements.result.now in
    let lawful = c.head.ensures.grammar in
    let is : es ≡ map.elements = c.elements-elements.ensures.value in (
      front-put c.head.result.now map.head (length es) c.args.out.now c.put_front.new.out c.head.ensures.value
          c.put_front.ensures,
      refl,
      omega (arith, ap (λ all. length all) is, lawful.few),
      is,
    )

pub loop-element-preserved : goal.loop-element-preserved
loop-element-preserved c =
    let inv = c.loop-element.invariant in
    let lawful = c.head.ensures.grammar in (
      element-put c.args.map.now.head c.elements-elements.result.now c.loop-element.element-index c.element-item.result c.word.result
          c.loop-element.at c.to_be_bytes.result c.args.out.now c.loop-element.out c.put.new.out
          lawful.head.four c.loop-element-test.true inv.1 inv.0 c.element-item.is c.word.ensures c.to_be_bytes.ensures
          c.put.ensures,
      omega (arith, inv.1),
      inv.2,
      inv.3,
    )

pub returns-clause-written : goal.returns-clause-written
returns-clause-written c =
    let inv = c.loop-element.invariant in
    all-put c.args.map.now c.elements-elements.result.now c.loop-element.element-index c.loop-element.at c.args.out.now
    c.loop-element.out inv.3 c.loop-element-test.false inv.0

pub returns-clause-length : goal.returns-clause-length
returns-clause-length c =
    let inv = c.loop-element.invariant in
    let long = length-spelling c.args.map.now c.head.ensures.grammar.head.four in
    omega (arith, inv.1, long, ap (λ all. length all) inv.3, c.loop-element-test.false, c.loop-element.auto.element-index-end)

pub returns-clause-one_spelling : goal.returns-clause-one_spelling
returns-clause-one_spelling c = λ other lawful same. one_body other c.args.map.now lawful c.head.ensures.grammar same

pub returns-clause-size : goal.returns-clause-size
returns-clause-size c =
    let inv = c.loop-element.invariant in
    omega (arith, inv.1, ap (λ all. length all) inv.3, c.loop-element-test.false, c.loop-element.auto.element-index-end)
