use Rattle.std.proofs.Common.{sym, ◌∙◌}
use Rattle.toml.specs.View.{table_view}
use Rattle.us_flows.proofs.JudgedLemmas.{shape_judged, grants_judged, few_clusters}
use Rattle.us_flows.proofs.flow_tables.flow_in.Goals as goal

pub returns-in-Some-clause-judged : goal.returns-in-Some-clause-judged
returns-in-Some-clause-judged c =
    shape_judged c.args.round_ticks c.args.channels.now c.args.earlier.now (table_view c.args.values.now) c.len.result
    c.in-Some.fault c.len.ensures (sym c.shape_fault.ensures ∙ c.in-Some.is)

pub returns-in-Some-grants_fault-clause-judged : goal.returns-in-Some-grants_fault-clause-judged
returns-in-Some-grants_fault-clause-judged c =
    grants_judged c.args.round_ticks c.args.channels.now c.args.earlier.now (table_view c.args.values.now) c.len.result
    c.in_ok-flow.flow c.in-Some-grants_fault.fault c.len.ensures c.in_ok-flow.ensures
    (sym c.shape_fault.ensures ∙ c.in_default.is) (sym c.names_fault.ensures ∙ c.in_default-names_fault.is)
    (sym c.grants_fault.ensures ∙ c.in-Some-grants_fault.is)

pub returns-in-None-clause-few : goal.returns-in-None-clause-few
returns-in-None-clause-few c =
    few_clusters (table_view c.args.values.now) _ c.in_ok-flow.flow c.in_ok-flow.ensures
    (sym c.shape_fault.ensures ∙ c.in_default.is)
