use Rattle.us_credit_rules.proofs.LastLemmas.{activities_first}
use Rattle.us_credit_rules.proofs.activities.activities_breach.Goals as goal

pub returns : goal.returns
returns c = λ judged are.
    rw (c.earlier.ensures, c.channels-2.ensures.value, c.first_untold-untold.ensures, c.channels.ensures.value, c.rounds.ensures.value)
    (activities_first c.args.config.now c.args.trace.now judged c.args.lines.now are c.in_ok-activities.activities
    c.in_ok-activities.ensures)
