use Rattle.us_findings.specs.Found.{first_what}
use Rattle.us_findings.proofs.FoundLemmas.{IsPartFound}
use Rattle.us_findings.proofs.trace_errors.Told.add_requests.Given as goal

abbrev pub invariant-loop-number : goal.invariant-loop-number
invariant-loop-number g l =
    IsPartFound l.fn.rows.left l.columns l.number (first_what l.fn.self.findings.items) (first_what l.self.findings.items)
    l.rows.left
