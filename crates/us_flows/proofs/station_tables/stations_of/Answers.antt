use Rattle.std.proofs.lemmas.Result.{err_from_is_err_and}
use Rattle.us_flows.specs.Checks.{station_fault}
use Rattle.us_flows.specs.Reading
use Rattle.us_flows.proofs.JudgedLemmas.{refused_item, accepted_item}
use Rattle.us_flows.proofs.station_tables.stations_of.Goals as goal

pub returns-in_err-push_station : goal.returns-in_err-push_station
returns-in_err-push_station c =
    let passed = err_from_is_err_and c.from_residual.result c.from_residual.ensures.1 in
    rw (passed.1, passed.2) (
    refused_item Reading.station_of (station_fault c.args.round_ticks c.args.channels.now) c.args.items.now c.loop-value.stations c.loop-value.value-index
    c.value-item.result _ c.loop-value-test.true c.value-item.is c.loop-value.invariant.0 c.in_err-push_station.field-0.0 _ _
    c.in_err-push_station.ensures
    )

pub loop-value-preserved : goal.loop-value-preserved
loop-value-preserved c =
    accepted_item Reading.station_of (station_fault c.args.round_ticks c.args.channels.now) c.args.items.now c.loop-value.stations c.loop-value.value-index
    c.value-item.result _ c.loop-value-test.true c.value-item.is c.loop-value.invariant.0 c.push_station.new.stations
    c.in_ok-push_station.ensures.0 c.in_ok-push_station.ensures.1 c.loop-value.invariant.1 c.loop-value.invariant.2
