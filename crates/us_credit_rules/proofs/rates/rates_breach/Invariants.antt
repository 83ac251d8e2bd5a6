use Rattle.std.proofs.Common.{◌≡◌, take, false}
use Rattle.us_requests.specs.Traces.{TraceAsks}
use Rattle.us_lawful.specs.Runs.{Judged, run_in}
use Rattle.us_reports.specs.Breaches.{IsFirstFailure, Any}
use Rattle.us_credit_rules.specs.CreditLines.{AreKept}
use Rattle.us_credit_rules.proofs.RuleLemmas.{rate_test}
use Rattle.us_credit_rules.proofs.rates.rates_breach.Given as goal

abbrev pub invariant-loop-place : goal.invariant-loop-place
invariant-loop-place l =
    (v : TraceAsks) (judged : Judged) → AreKept l.config v judged.lines l.lines →
    IsFirstFailure l.config.channels
    (Any (λ flow p. rate_test (run_in l.config v) judged flow p ≡ false) (take l.place l.flow-items)) l.first
