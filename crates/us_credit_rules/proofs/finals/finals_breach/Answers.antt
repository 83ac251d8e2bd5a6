use Rattle.us_credit_rules.proofs.LastLemmas.{finals_first}
use Rattle.us_credit_rules.proofs.finals.finals_breach.Goals as goal

pub returns : goal.returns
returns c = λ judged are.
    rw (c.earlier.ensures, c.channels.ensures.value, c.first_wrong-wrong.ensures, c.rounds.ensures.value, c.round_ticks.ensures.value, c.deref.ensures.value)
    (finals_first c.args.config.now c.args.trace.now judged c.args.lines.now c.channels.ensures.lawful c.rounds.ensures.lawful
    are c.in_ok-asked.asked.items c.in_ok-asked.ensures.0 c.in_ok-asked.ensures.1)
