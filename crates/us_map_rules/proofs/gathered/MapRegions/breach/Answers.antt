use Rattle.std.proofs.Common.{◌*◌, length, ap₂, arith, ◌∙◌}
use Rattle.us_map_rules.specs.RegionLines.{placed_lines}
use Rattle.us_map_rules.proofs.RegionRuleLemmas.{all_told, first_told}
use Rattle.us_map_rules.proofs.gathered.MapRegions.breach.Goals as goal

pub returns-in-Some : goal.returns-in-Some
returns-in-Some c = λ maps lines told.
    let count = ap₂ (λ r cs. r * length cs) (c.from.ensures ∙ c.rounds.ensures.value) c.channels.ensures.value in
    let placed = placed_lines c.args.config.now c.args.trace.now.rounds lines in
    first_told c.args.config.now c.args.trace.now (record { maps = maps; lines = lines }) c.args.file.now _ _ _ _ _
    (c.in_ok-close_before.ensures.told c.args.trace.now.rounds maps placed (omega (arith, count)) told)
    count (c.in_ok-close_before.ensures.number (omega (arith, told.within, count))) _ _ _
    c.channels.ensures.lawful c.in-Some.is c.place_in.ensures

pub returns-in-None : goal.returns-in-None
returns-in-None c = λ maps lines told.
    let count = ap₂ (λ r cs. r * length cs) (c.from.ensures ∙ c.rounds.ensures.value) c.channels.ensures.value in
    let placed = placed_lines c.args.config.now c.args.trace.now.rounds lines in
    all_told c.args.config.now c.args.trace.now (record { maps = maps; lines = lines }) c.args.file.now _ _ _ _ _
    (c.in_ok-close_before.ensures.told c.args.trace.now.rounds maps placed (omega (arith, count)) told)
    count (c.in_ok-close_before.ensures.number (omega (arith, told.within, count))) c.in-None.is
