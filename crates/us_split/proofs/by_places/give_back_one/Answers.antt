use Rattle.std.proofs.Math.Seq.{map-set_same}
use Rattle.std.proofs.Common.{ap}
use Rattle.us_split.specs.PartialPlans.{ChannelPlan, returned}
use Rattle.us_split.proofs.ByPlaceLemmas.{change_put}
use Rattle.us_split.proofs.by_places.give_back_one.Goals as goal

pub returns-clause-share : goal.returns-clause-share
returns-clause-share c =
    change_put (returned c.args.header c.args.share) c.from.result c.args.seat.place c.args.channels.now
    c.index-channels-from.result c.give_back.new.self c.from.ensures c.requires.inside c.give_back.ensures

pub returns-clause-kept : goal.returns-clause-kept
returns-clause-kept c =
    map-set_same (λ (c : ChannelPlan). c.channel) c.args.channels.now c.from.result c.give_back.new.self
    c.index-channels-from.result (ap (λ (c : ChannelPlan). c.channel) c.give_back.ensures)
