use Rattle.std.proofs.Common.{◌≤◌, drop}
use Rattle.us_requests.specs.Outcomes.{AreKnown}
use Rattle.us_requests.proofs.FilingLemmas.{IsPartFiled}
use Rattle.us_requests.proofs.traces.file_all.Given as goal

abbrev pub invariant-loop-request : goal.invariant-loop-request
invariant-loop-request l =
    IsPartFiled l.config l.rounds l.requests (drop l.request-index l.requests) l.filed.asks.items l.filed.counts
    × (l.filed.counts.unknown ≤ l.request-index) × (l.filed.counts.not_requestable ≤ l.request-index)
    × (l.filed.counts.late ≤ l.request-index) × AreKnown l.config l.known.items
