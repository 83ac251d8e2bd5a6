use Rattle.std.proofs.Common.{◌+◌, drop, ap, sym, ◌∙◌, subst}
use Rattle.std.proofs.lemmas.List.{take_rest}
use Rattle.us_map_rules.specs.Gathered.{AreGathered}
use Rattle.us_map_rules.proofs.ToldLemmas.{drop_least, gathered_closed}
use Rattle.us_map_rules.proofs.gathered.MapRegions.close.Goals as goal

pub returns-clause-told : goal.returns-clause-told
returns-clause-told c = λ rounds maps placed inside told.
    let t = c.args.config.now in
    let bytes = c.args.file.now in
    let s = c.args.self.now in
    let from = c.min-at.result in
    let read = c.first_elements-len in
    let next = c.keep_first.new.first in
    subst (λ rs. AreGathered t rounds bytes maps placed (s.number + 1) (from + read.result.1) rs next)
    (sym c.clear.ensures.items)
    (gathered_closed t rounds bytes maps placed s.number s.at s.regions.items s.first told read.result.0.now from read.result.1
    _ next inside (take_rest bytes from) (ap (λ i. drop i bytes) c.min-at.ensures ∙ drop_least s.at bytes) read.ensures.read
    c.in_ok-keep_first.ensures)
