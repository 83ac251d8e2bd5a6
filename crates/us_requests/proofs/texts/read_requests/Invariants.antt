use Rattle.us_requests.proofs.TextLemmas.{IsPartRead}
use Rattle.us_requests.proofs.texts.read_requests.Given as goal

abbrev pub invariant-loop-number : goal.invariant-loop-number
invariant-loop-number l = IsPartRead l.fn.reader l.columns l.number l.requests.items l.reader
