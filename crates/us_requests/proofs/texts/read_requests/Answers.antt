use Rattle.std.proofs.Common.{arith}
use Rattle.csv.specs.Records.{fields_of}
use Rattle.us_requests.proofs.TextLemmas.{record-read, record-fault, all-read, passed}
use Rattle.us_requests.proofs.texts.read_requests.Goals as goal

pub returns-then-not-branch : goal.returns-then-not-branch
returns-then-not-branch c =
    let l = c.loop-number in
    let left = c.read.new.self in
    let ended = rw c.if-not-branch.true at c.in_ok-read.ensures in
    all-read c.args.reader.now c.args.columns l.number l.requests.items l.reader left (fields_of c.read.new.fields) l.invariant ended
    (omega (arith, l.auto.number))

pub returns-in_err-request_in : goal.returns-in_err-request_in
returns-in_err-request_in c =
    let l = c.loop-number in
    let left = c.read.new.self in
    let fault = c.in_err-request_in.field-0.0 in
    let took = rw c.if-not-branch.false at c.in_ok-read.ensures in
    let first = record-fault c.args.reader.now c.args.columns l.number l.requests.items l.reader left (fields_of c.read.new.fields) fault
    l.invariant took c.in_err-request_in.ensures.fault in
    passed c.from_residual-in_err-request_in.result fault _ _ c.from_residual-in_err-request_in.ensures.1 first

pub loop-number-preserved : goal.loop-number-preserved
loop-number-preserved c =
    let l = c.loop-number in
    let left = c.read.new.self in
    let request = c.in_ok-request_in.field-0 in
    let sound = c.in_ok-request_in.ensures in
    let took = rw c.if-not-branch.false at c.in_ok-read.ensures in
    rw c.in_ok-push.ensures.items
    (record-read c.args.reader.now c.args.columns l.number l.requests.items l.reader left (fields_of c.read.new.fields) request
    l.invariant took sound.none sound.value sound.small)

pub returns : goal.returns
returns c =
    let l = c.loop-number in
    let left = c.read-2.new.self in
    let ended = rw c.if-branch.false at c.in_ok-read-2.ensures in
    all-read c.args.reader.now c.args.columns l.number l.requests.items l.reader left (fields_of c.read-2.new.fields) l.invariant ended
    (omega (arith, l.auto.number))
