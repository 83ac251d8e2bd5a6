use Rattle.std.proofs.Common.{refl}
use Rattle.us_flows.specs.Lawful.{IsStation}
use Rattle.us_calendar.specs.Entries.{entry_of_station}
use Rattle.us_calendar.proofs.ListingLemmas.{listed_as, station_step}
use Rattle.us_calendar.proofs.listing.push_stations.Goals as goal

pub station_entry-requires-clause-station : goal.station_entry-requires-clause-station
station_entry-requires-clause-station c = (
  c.requires.stations.0,
  listed_as (IsStation c.requires.stations.0) c.args.stations.now c.loop-station.station-index _ _ c.requires.stations.1
      c.loop-station-test.true refl,
)

pub loop-station-preserved : goal.loop-station-preserved
loop-station-preserved c =
    let l = c.loop-station in
    station_step (entry_of_station c.args.channel.now) c.args.stations.now l.station-index _ _ c.station_entry.result
    l.entries.items c.push_some.new.entries.items _ c.loop-station-test.true refl c.station_entry.ensures
    c.in_ok-push_some.ensures l.invariant
