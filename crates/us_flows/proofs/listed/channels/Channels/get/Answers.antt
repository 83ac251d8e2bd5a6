use Rattle.std.proofs.Common.{ap, ◌∙◌}
use Rattle.us_flows.specs.Tables.{channel_with}
use Rattle.us_flows.proofs.ListedLemmas.{found_by_id}
use Rattle.us_flows.proofs.listed.channels.Channels.get.Goals as goal

pub returns : goal.returns
returns c =
    c.get.ensures.value ∙ found_by_id (λ channel. channel.id) c.self.inside.map.entries c.self.invariant c.args.id ∙ ap
    (λ channels. channel_with channels c.args.id) c.self.view_is
