use Rattle.us_flows.proofs.CopyLemmas.{new_key}
use Rattle.us_flows.proofs.listed.channels.Channels.copied.Goals as goal

pub push-requires : goal.push-requires
push-requires c =
    new_key (λ channel. channel.id) c.loop-channel.copy c.args.channels.now c.loop-channel.channel-index
    c.channel-item.result _ c.loop-channel.invariant c.channel-item.is c.loop-channel-test.true c.requires
