use Rattle.std.proofs.Common.{◌∙◌}
use Rattle.us_map_rules.specs.MapRegions.{contention_region, maintenance_region}
use Rattle.us_map_rules.proofs.MapRegionLemmas.{reserved_failing}
use Rattle.us_map_rules.proofs.map_regions.map_failing.Goals as goal

pub returns : goal.returns
returns c =
    reserved_failing c.args.channel.now _ _ (maintenance_region c.args.round c.args.channel.now) c.args.regions.now.items
    (contention_region c.args.config.now c.args.channel.now) _ _ _ c.first_failing.result (c.from-len.ensures ∙ c.map_len.ensures.value)
    c.in_ok-put_reserves.ensures c.first_failing.ensures
