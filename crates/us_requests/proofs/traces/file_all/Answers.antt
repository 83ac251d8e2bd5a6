use Rattle.std.proofs.Common.{◌+◌, drop, ap, arith}
use Rattle.std.proofs.lemmas.List.{drop_all}
use Rattle.us_requests.proofs.AskLemmas.{next-item}
use Rattle.us_requests.proofs.FilingLemmas.{filing-start, request-filed, counts-rise, all-filed}
use Rattle.us_requests.proofs.traces.file_all.Goals as goal

pub loop-request-init : goal.loop-request-init
loop-request-init c =
    let none = c.new-filed.ensures.counts in (
      filing-start c.args.config.now c.args.rounds c.args.requests.now c.new-filed.result.asks.items
          c.new-filed.result.counts c.new-filed.ensures.asks none,
      omega (arith, ap (λ counts. counts.unknown) none),
      omega (arith, ap (λ counts. counts.not_requestable) none),
      omega (arith, ap (λ counts. counts.late) none),
      c.in_ok-known.ensures,
    )

pub loop-request-preserved : goal.loop-request-preserved
loop-request-preserved c =
    let l = c.loop-request in
    let requests = c.args.requests.now in
    let i = l.request-index in
    let q = c.request-item.result in
    let part = rw (next-item requests i q c.loop-request-test.true c.request-item.is) at l.invariant.0 in
    let filed = request-filed c.args.config.now c.args.rounds requests (drop (i + 1) requests) q l.filed.asks.items
    c.add.new.self.asks.items l.filed.counts c.outcome_of.result part c.outcome_of.ensures c.in_ok-add.ensures.asks in
    let rise = counts-rise c.outcome_of.result l.filed.counts i l.invariant.1 l.invariant.2 l.invariant.3 in
    rw c.in_ok-add.ensures.counts (filed, rise.0, rise.1, rise.2, c.found_of-found.ensures.known)

pub returns-clause-filed : goal.returns-clause-filed
returns-clause-filed c =
    let l = c.loop-request in
    let requests = c.args.requests.now in
    let part = rw (drop_all l.request-index requests c.loop-request-test.false) at l.invariant.0 in
    all-filed c.args.config.now c.args.rounds requests l.filed.asks.items l.filed.counts part
