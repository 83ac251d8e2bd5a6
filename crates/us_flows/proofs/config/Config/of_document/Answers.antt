use Rattle.std.proofs.Common.{sym, ◌∙◌}
use Rattle.std.proofs.lemmas.Result.{err_from_is_err_and}
use Rattle.toml.specs.View.{table_view}
use Rattle.us_flows.specs.Checks.{first_fault}
use Rattle.us_flows.proofs.JudgedLemmas.{carried}
use Rattle.us_flows.proofs.TableLemmas.{round_fits, few_channels, top_judged, found_in_channels}
use Rattle.us_flows.proofs.config.Config.of_document.Goals as goal

pub returns-in-Some-clause-judged : goal.returns-in-Some-clause-judged
returns-in-Some-clause-judged c =
    top_judged (table_view c.args.document.now) c.in-Some.fault _ (sym c.top_fault.ensures ∙ c.in-Some.is)

pub u32_at-round_ticks-requires : goal.u32_at-round_ticks-requires
u32_at-round_ticks-requires c = round_fits (table_view c.args.document.now) (sym c.top_fault.ensures ∙ c.in_default.is)

pub channels_of-requires : goal.channels_of-requires
channels_of-requires c =
    few_channels (table_view c.args.document.now) c.items_at.result.now (sym c.top_fault.ensures ∙ c.in_default.is)
    c.items_at.ensures

pub returns-in_err-channels-clause-judged : goal.returns-in_err-channels-clause-judged
returns-in_err-channels-clause-judged c =
    let passed = err_from_is_err_and c.from_residual.result c.from_residual.ensures.1 in
    let found = rw c.items_at.ensures at c.in_err-channels.ensures in
    rw (passed.1, passed.2) (
    carried c.in_err-channels.field-0.0 _ (first_fault (table_view c.args.document.now)) _ _
    (found_in_channels (table_view c.args.document.now) c.u32_at-round_ticks.result c.in_err-channels.field-0.0
    (sym c.top_fault.ensures ∙ c.in_default.is) c.u32_at-round_ticks.ensures) found
    )
