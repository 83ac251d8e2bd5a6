use Rattle.std.proofs.Common.{◌≡◌, ◌++◌, drop}
use Rattle.std.specs.List.{filter_map}
use Rattle.us_calendar.specs.Entries.{entry_of_station}
use Rattle.us_calendar.proofs.listing.push_stations.Given as goal

-- what is left to put in leads to the same
abbrev pub invariant-loop-station : goal.invariant-loop-station
invariant-loop-station l =
    l.entries.items ++ filter_map (entry_of_station l.channel) (drop l.station-index l.stations) ≡
    l.fn.entries.items ++ filter_map (entry_of_station l.channel) l.stations
