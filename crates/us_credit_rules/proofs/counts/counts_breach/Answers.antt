use Rattle.std.proofs.Common.{sym, ◌∙◌}
use Rattle.us_credit_rules.proofs.LastLemmas.{counts_first}
use Rattle.us_credit_rules.proofs.counts.counts_breach.Goals as goal

pub returns-then-is_told : goal.returns-then-is_told
returns-then-is_told c = λ t judged are.
    counts_first t.channels t c.args.trace.now judged c.args.lines.now _ are (sym c.if-is_told.true ∙ c.is_told.ensures)

pub returns : goal.returns
returns c = λ t judged are.
    rw (c.from.ensures, c.rounds.ensures.value)
    (counts_first t.channels t c.args.trace.now judged c.args.lines.now _ are (sym c.if-is_told.false ∙ c.is_told.ensures))
