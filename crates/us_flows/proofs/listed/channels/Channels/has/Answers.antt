use Rattle.std.proofs.Common.{ap, ◌∙◌}
use Rattle.us_flows.specs.Tables.{has_channel}
use Rattle.us_flows.proofs.ListedLemmas.{has_id}
use Rattle.us_flows.proofs.listed.channels.Channels.has.Goals as goal

pub returns : goal.returns
returns c =
    c.contains_key.ensures ∙ has_id (λ channel. channel.id) c.self.inside.map.entries c.self.invariant c.args.id ∙ ap
    (λ channels. has_channel channels c.args.id) c.self.view_is
