use Rattle.us_steps.proofs.ChannelLemmas.{each_channel_is_filled}
use Rattle.us_steps.proofs.laws.each_channel_is_filled.Goals as goal

pub returns : goal.returns
returns c = each_channel_is_filled
