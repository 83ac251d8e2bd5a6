use Rattle.std.proofs.Common.{refl}
use Rattle.us_flows.proofs.CopyLemmas.{new_key}
use Rattle.us_flows.proofs.listed.stations.Stations.copied.Goals as goal

pub push-requires : goal.push-requires
push-requires c =
    new_key (λ station. station.id) c.loop-station.copy c.args.stations.now c.loop-station.station-index
    _ _ c.loop-station.invariant refl c.loop-station-test.true c.requires
