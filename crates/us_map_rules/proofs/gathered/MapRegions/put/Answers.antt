use Rattle.std.proofs.Common.{◌++◌, ◌∷◌, [], arith, sym, subst}
use Rattle.us_map_rules.specs.Gathered.{AreGathered}
use Rattle.us_map_rules.specs.RegionLines.{PlacedRegion}
use Rattle.us_map_rules.proofs.ToldLemmas.{gathered_more}
use Rattle.us_map_rules.proofs.gathered.MapRegions.put.Goals as goal

pub returns-clause-told : goal.returns-clause-told
returns-clause-told c = λ rounds maps placed inside told.
    let t = c.args.config.now in
    let bytes = c.args.file.now in
    let one : PlacedRegion = record { map = c.args.map; region = c.args.region } in
    let now = c.close_before.new.self in
    subst (λ rs. AreGathered t rounds bytes maps (placed ++ one ∷ []) now.number now.at rs now.first)
    (sym c.in_ok-push.ensures.items)
    (gathered_more t rounds bytes maps placed now.number now.at now.regions.items now.first
    (c.in_ok-close_before.ensures.told rounds maps placed (omega (arith, inside)) told) one
    (sym (c.in_ok-close_before.ensures.number c.requires)))
