use Rattle.std.proofs.lemmas.Result.{err_from_is_err_and}
use Rattle.us_flows.specs.Checks.{channel_fault}
use Rattle.us_flows.specs.Reading
use Rattle.us_flows.proofs.JudgedLemmas.{refused_item, accepted_item}
use Rattle.us_flows.proofs.channel_tables.channels_of.Goals as goal

pub returns-in_err-push_channel : goal.returns-in_err-push_channel
returns-in_err-push_channel c =
    let passed = err_from_is_err_and c.from_residual.result c.from_residual.ensures.1 in
    rw (passed.1, passed.2) (
    refused_item Reading.channel_of (channel_fault c.args.round_ticks) c.args.items.now c.loop-value.channels c.loop-value.value-index
    c.value-item.result _ c.loop-value-test.true c.value-item.is c.loop-value.invariant.0 c.in_err-push_channel.field-0.0 _ _
    c.in_err-push_channel.ensures
    )

pub loop-value-preserved : goal.loop-value-preserved
loop-value-preserved c =
    accepted_item Reading.channel_of (channel_fault c.args.round_ticks) c.args.items.now c.loop-value.channels c.loop-value.value-index
    c.value-item.result _ c.loop-value-test.true c.value-item.is c.loop-value.invariant.0 c.push_channel.new.channels
    c.in_ok-push_channel.ensures.0 c.in_ok-push_channel.ensures.1 c.loop-value.invariant.1 c.loop-value.invariant.2
