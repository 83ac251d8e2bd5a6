use Rattle.std.proofs.Common.{arith}
use Rattle.us_codec.proofs.WordLemmas.{AreBytes}
use Rattle.us_codec.proofs.FileLemmas.{inside-found, whole-found, short-cut, begins-whole}
use Rattle.us_codec.proofs.maps_files.split.Goals as goal

pub returns-then-rest-lt-HEADER_BYTES-clause-inside :
    goal.returns-then-rest-lt-HEADER_BYTES-clause-inside
returns-then-rest-lt-HEADER_BYTES-clause-inside c = λ known.
    let are : AreBytes c.args.file.now = λ i. omega (arith, c.type_inv.file i) in
    inside-found c.args.file.now c.loop-rest.rest.now c.loop-rest.at c.loop-rest.found.items are c.loop-rest.invariant
    c.loop-rest-test.ensures (omega (arith, c.if-rest-lt-HEADER_BYTES.true))

pub returns-then-rest-body_len-clause-inside : goal.returns-then-rest-body_len-clause-inside
returns-then-rest-body_len-clause-inside c = λ known.
    let are : AreBytes c.args.file.now = λ i. omega (arith, c.type_inv.file i) in
    inside-found c.args.file.now c.loop-rest.rest.now c.loop-rest.at c.loop-rest.found.items are c.loop-rest.invariant
    c.loop-rest-test.ensures (omega (arith, c.if-rest-body_len.true, c.from-body_len.ensures, c.from_be_bytes.ensures))

pub returns-clause-found : goal.returns-clause-found
returns-clause-found c =
    whole-found c.args.file.now c.loop-rest.rest.now c.loop-rest.at c.loop-rest.found.items c.loop-rest.invariant c.loop-rest-test.ensures

pub returns-clause-short : goal.returns-clause-short
returns-clause-short c = λ some short.
    absurd (short-cut c.args.file.now c.loop-rest.rest.now c.loop-rest.at c.loop-rest.found.items c.loop-rest.invariant
    c.loop-rest-test.ensures some short)

-- memory is asked for where the record stands whole
pub returns-in_err-push-clause-wanting : goal.returns-in_err-push-clause-wanting
returns-in_err-push-clause-wanting c = λ _.
    let are : AreBytes c.args.file.now = λ i. omega (arith, c.type_inv.file i) in
    begins-whole c.args.file.now c.loop-rest.rest.now c.loop-rest.at c.loop-rest.found.items are c.loop-rest.invariant
    (omega (arith, c.if-rest-body_len.false, c.from-body_len.ensures, c.from_be_bytes.ensures))
