use Rattle.std.proofs.Common.{◌≡◌, take}
use Rattle.us_flows.proofs.listed.stations.Stations.copied.Given as goal

-- so many stations are copied
abbrev pub invariant-loop-station : goal.invariant-loop-station
invariant-loop-station l = l.copy ≡ take l.station-index l.stations
