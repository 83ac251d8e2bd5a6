use Rattle.std.proofs.Common.{◌≡◌, ◌++◌, [], drop, length}
use Rattle.toml.specs.View.{items_view}
use Rattle.us_flows.specs.Checks.{in_turn, station_fault}
use Rattle.us_flows.specs.Reading.{all_of, station_of}
use Rattle.us_flows.proofs.station_tables.stations_of.Given as goal

-- what is found of all items is found of those that are left
abbrev pub invariant-loop-value : goal.invariant-loop-value
invariant-loop-value l =
    (in_turn station_of (station_fault l.round_ticks l.channels) l.stations (items_view (drop l.value-index l.items)) ≡
    in_turn station_of (station_fault l.round_ticks l.channels) [] (items_view l.items)) ×
    (l.stations ++ all_of station_of (items_view (drop l.value-index l.items)) ≡
    all_of station_of (items_view l.items)) ×
    (length l.stations ≡ l.value-index)
