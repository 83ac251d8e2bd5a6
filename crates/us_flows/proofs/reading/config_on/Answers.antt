use Rattle.std.proofs.Common.{◌∙◌}
use Rattle.std.proofs.lemmas.Result.{err_from_is_err_and}
use Rattle.toml.specs.View.{table_view}
use Rattle.us_flows.specs.Checks.{first_fault}
use Rattle.us_flows.proofs.JudgedLemmas.{carried}
use Rattle.us_flows.proofs.TableLemmas.{lead_fits, found_in_rest, accepted}
use Rattle.us_flows.proofs.reading.config_on.Goals as goal

pub u32_at-lead_ticks-requires : goal.u32_at-lead_ticks-requires
u32_at-lead_ticks-requires c = lead_fits (table_view c.args.document.now) c.requires.top

pub returns-in_err-flows : goal.returns-in_err-flows
returns-in_err-flows c =
    let passed = err_from_is_err_and c.from_residual.result c.from_residual.ensures.1 in
    let rest = found_in_rest (table_view c.args.document.now) c.args.round_ticks c.args.channels c.requires.top c.requires.round
    c.requires.judged c.requires.channels in
    rw (passed.1, passed.2) (
    carried c.in_err-flows.field-0.0 _ (first_fault (table_view c.args.document.now)) _ _ (λ found. rest ∙ found)
    c.in_err-flows.ensures
    )

pub new-requires : goal.new-requires
new-requires c =
    let rest = found_in_rest (table_view c.args.document.now) c.args.round_ticks c.args.channels c.requires.top c.requires.round
    c.requires.judged c.requires.channels in
    (accepted (table_view c.args.document.now) c.args.round_ticks c.u32_at-lead_ticks.result c.args.channels _ _
    (rest ∙ c.in_ok-flows.ensures.0) c.requires.round c.u32_at-lead_ticks.ensures c.requires.channels
    c.in_ok-flows.ensures.1.0 c.in_ok-flows.ensures.1.1).0

pub returns : goal.returns
returns c =
    let rest = found_in_rest (table_view c.args.document.now) c.args.round_ticks c.args.channels c.requires.top c.requires.round
    c.requires.judged c.requires.channels in
    let all = accepted (table_view c.args.document.now) c.args.round_ticks c.u32_at-lead_ticks.result c.args.channels _ _
    (rest ∙ c.in_ok-flows.ensures.0) c.requires.round c.u32_at-lead_ticks.ensures c.requires.channels
    c.in_ok-flows.ensures.1.0 c.in_ok-flows.ensures.1.1 in
    (rest ∙ c.in_ok-flows.ensures.0, c.in_ok-new.ensures ∙ all.1)
