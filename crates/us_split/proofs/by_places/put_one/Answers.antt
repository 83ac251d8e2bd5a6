use Rattle.std.proofs.Math.Seq.{map-set_same}
use Rattle.us_split.specs.PartialPlans.{ChannelPlan}
use Rattle.us_split.proofs.ByPlaceLemmas.{nothing_put, share_put}
use Rattle.us_split.proofs.by_places.put_one.Goals as goal

pub returns-then-share-eq0-clause-share : goal.returns-then-share-eq0-clause-share
returns-then-share-eq0-clause-share c =
    nothing_put c.args.asker c.args.position c.args.seat.sid c.args.share c.args.seat.place c.args.channels.now c.if-share-eq0.true

pub returns-clause-share : goal.returns-clause-share
returns-clause-share c =
    share_put c.args.asker c.args.position c.args.seat.sid c.args.share c.from.result c.args.seat.place c.args.channels.now
    c.index-channels-from.result c.claim.new.self c.from.ensures c.requires.inside c.if-share-eq0.false
    c.in_ok-claim.ensures.claim

pub returns-clause-kept : goal.returns-clause-kept
returns-clause-kept c =
    map-set_same (λ (c : ChannelPlan). c.channel) c.args.channels.now c.from.result c.claim.new.self
    c.index-channels-from.result c.claim.ensures.channel

pub returns-in_err-claim-clause-kept : goal.returns-in_err-claim-clause-kept
returns-in_err-claim-clause-kept c =
    map-set_same (λ (c : ChannelPlan). c.channel) c.args.channels.now c.from.result c.claim.new.self
    c.index-channels-from.result c.claim.ensures.channel
