use Rattle.us_credit_rules.proofs.ChannelLemmas.{channel_else}
use Rattle.us_credit_rules.proofs.repeats.place_near.Goals as goal

pub returns : goal.returns
returns c = rw (c.unwrap_or.ensures, c.place_of.ensures) (channel_else c.args.channels.now c.args.id)
