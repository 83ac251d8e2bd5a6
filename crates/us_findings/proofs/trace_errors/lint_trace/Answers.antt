use Rattle.std.proofs.Common.{◌≤◌, length, arith}
use Rattle.us_requests.specs.Readings.{max_bytes}
use Rattle.us_findings.proofs.LintLemmas.{all-found, first-found}
use Rattle.us_findings.proofs.trace_errors.lint_trace.Goals as goal

pub returns : goal.returns
returns g c =
    let short : length c.args.text.now ≤ max_bytes = omega (arith, c.if-text-gt-MAX_TRACE_BYTES.false) in
    first-found c.args.text.now c.into_findings.result _ short
    (all-found _ _ _ c.new.result c.new-told.ensures c.new.ensures c.in_ok-add_all.ensures) c.into_findings.ensures
