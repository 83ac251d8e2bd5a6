use Rattle.std.proofs.Common.{ap, Err}
use Rattle.us_requests.proofs.ReadingLemmas.{not-read, was_wanting}
use Rattle.us_requests.proofs.traces.Trace.read.Goals as goal

pub returns-in_err-text-clause-read : goal.returns-in_err-text-clause-read
returns-in_err-text-clause-read g c =
    let told = g.R.Source.remaining c.args.source.now in
    let fault = c.in_err-text.field-0.0 in
    not-read c.args.config.now c.args.rounds told c.from_residual.result fault c.from_residual.ensures.1
    (λ is. c.in_err-text.ensures.large (ap (λ f. Err f) is))

pub returns-in_err-text-clause-wanting : goal.returns-in_err-text-clause-wanting
returns-in_err-text-clause-wanting g c = λ is.
    c.in_err-text.ensures.wanting
    (ap (λ f. Err f) (was_wanting c.from_residual.result c.in_err-text.field-0.0 c.from_residual.ensures.1 is))

-- where its records find no memory, all bytes were taken, which are few enough
pub returns-clause-wanting : goal.returns-clause-wanting
returns-clause-wanting g c = λ _. c.in_ok-text.ensures.whole
