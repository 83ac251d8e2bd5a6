use Rattle.std.proofs.Common.{◌++◌, ◌-◌, ◌/◌, append_assoc, ap, sym, ◌∙◌}
use Rattle.us_crew.specs.Cutting.{halved_parts}
use Rattle.us_crew.proofs.CuttingLemmas.{cut}
use Rattle.us_crew.proofs.parts.+add_halves.Goals as goal

pub returns-clause-added : goal.returns-clause-added
returns-clause-added t c =
    let w = c.args.workers in
    let n = c.args.items in
    let old = c.args.parts.now.items in
    c.add_halves-2.ensures.added
    ∙ ap (λ front. front ++ halved_parts (w - w / 2) (n - n / 2)) c.add_halves.ensures.added
    ∙ append_assoc old (halved_parts (w / 2) (n / 2)) (halved_parts (w - w / 2) (n - n / 2))
    ∙ ap (λ all. old ++ all) (sym (cut w n c.if-workers-lt2.false c.if-items-lt2.false))
