use Rattle.std.proofs.Common.{◌∙◌}
use Rattle.std.proofs.lemmas.Result.{err_from_is_err_and}
use Rattle.toml.specs.View.{view, table_view}
use Rattle.us_flows.specs.Checks.{flow_fault}
use Rattle.us_flows.specs.Reading
use Rattle.us_flows.proofs.JudgedLemmas.{no_table, refused_table, accepted_table}
use Rattle.us_flows.proofs.flow_tables.pushed_flow.Goals as goal

pub returns-in_err-flow-in-Some : goal.returns-in_err-flow-in-Some
returns-in_err-flow-in-Some c =
    let passed = err_from_is_err_and c.from_residual.result c.from_residual.ensures.1 in
    let judged = rw c.new-values.ensures at c.in_err-flow-in-Some.ensures.judged in
    rw (passed.1, passed.2) (
    refused_table Reading.flow_of (flow_fault c.args.round_ticks c.args.channels.now) c.args.flows (view c.args.value.now) (table_view c.in-Some.table.now)
    c.in_err-flow-in-Some.field-0.0 _ _ c.in-Some.ensures judged
    )

pub returns-in-None : goal.returns-in-None
returns-in-None c = no_table Reading.flow_of (flow_fault c.args.round_ticks c.args.channels.now) c.args.flows (view c.args.value.now) c.in-None.ensures

pub returns-in_ok-pushed-in-Some : goal.returns-in_ok-pushed-in-Some
returns-in_ok-pushed-in-Some c =
    let judged = rw c.new-values.ensures at c.in_ok-flow-in-Some.ensures.judged in
    let all = accepted_table Reading.flow_of (flow_fault c.args.round_ticks c.args.channels.now) c.args.flows (view c.args.value.now) (table_view c.in-Some.table.now)
    c.in_ok-flow-in-Some.flow c.in-Some.ensures judged.0 judged.1 in
    (all.0, c.in_ok-pushed-in-Some.ensures ∙ all.1)
