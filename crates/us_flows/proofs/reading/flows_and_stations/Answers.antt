use Rattle.std.proofs.lemmas.Result.{err_from_is_err_and}
use Rattle.toml.specs.View.{table_view, items_view}
use Rattle.us_flows.proofs.JudgedLemmas.{carried}
use Rattle.us_flows.proofs.TableLemmas.{few_flows, few_stations, rest_fault, found_in_flows, found_in_stations}
use Rattle.us_flows.proofs.reading.flows_and_stations.Goals as goal

pub flows_of-requires : goal.flows_of-requires
flows_of-requires c = few_flows (table_view c.args.document.now) c.items_at.result.now c.requires c.items_at.ensures

pub returns-in_err-flows : goal.returns-in_err-flows
returns-in_err-flows c =
    let passed = err_from_is_err_and c.from_residual.result c.from_residual.ensures.1 in
    rw (passed.1, passed.2) (
    carried c.in_err-flows.field-0.0 _ (rest_fault (table_view c.args.document.now) c.args.round_ticks c.args.channels.now) _ _
    (found_in_flows (table_view c.args.document.now) c.args.round_ticks c.args.channels.now
    (items_view c.items_at.result.now) c.in_err-flows.field-0.0 c.items_at.ensures) c.in_err-flows.ensures
    )

pub stations_of-requires : goal.stations_of-requires
stations_of-requires c = few_stations (table_view c.args.document.now) c.items_at-2.result.now c.requires c.items_at-2.ensures

pub returns-in_err-stations : goal.returns-in_err-stations
returns-in_err-stations c =
    let passed = err_from_is_err_and c.from_residual-in_err-stations.result c.from_residual-in_err-stations.ensures.1 in
    rw (passed.1, passed.2) (
    carried c.in_err-stations.field-0.0 _ (rest_fault (table_view c.args.document.now) c.args.round_ticks c.args.channels.now) _ _
    (found_in_stations (table_view c.args.document.now) c.args.round_ticks c.args.channels.now
    (items_view c.items_at.result.now) (items_view c.items_at-2.result.now) _ c.items_at.ensures
    c.in_ok-flows.ensures.0 c.items_at-2.ensures) c.in_err-stations.ensures
    )
