use Rattle.std.proofs.Common.{[], None, sym, subst}
use Rattle.us_map_rules.specs.Gathered.{AreGathered}
use Rattle.us_map_rules.proofs.ToldLemmas.{gathered_nothing}
use Rattle.us_map_rules.proofs.gathered.MapRegions.new.Goals as goal

pub returns : goal.returns
returns c = λ run bytes maps of.
    subst (λ rs. AreGathered run.tables run.rounds bytes maps [] 0 0 rs None) (sym c.new.ensures.items)
    (gathered_nothing run.tables run.rounds bytes maps of)
