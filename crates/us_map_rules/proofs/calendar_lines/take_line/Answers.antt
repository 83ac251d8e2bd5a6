use Rattle.std.proofs.Common.{None, sym, ◌∙◌}
use Rattle.us_map_rules.proofs.TakingLemmas.{none_more}
use Rattle.us_map_rules.proofs.calendar_lines.take_line.Goals as goal

pub returns-in-None-clause-told : goal.returns-in-None-clause-told
returns-in-None-clause-told c = λ lines before.
    none_more c.args.run.now c.args.row.now c.args.listed.now None (sym c.calendar_line.ensures ∙ c.in-None.is)
    (λ k d inside. tt) lines c.args.told.now.items before
