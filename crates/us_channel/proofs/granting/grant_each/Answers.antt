use Rattle.std.proofs.Common.{◌∙◌}
use Rattle.us_channel.proofs.BuildLemmas.{build_more, build_end}
use Rattle.us_channel.proofs.granting.grant_each.Goals as goal

pub loop-claim-preserved : goal.loop-claim-preserved
loop-claim-preserved c =
    let more = build_more c.args.channel.now.bursts c.args.claims.now c.loop-claim.claim-index
    c.claim-item.result c.loop-claim.board c.grant_one.new.board c.loop-claim.grants.items c.grant_one.new.grants.items
    _ _ c.loop-claim-test.true c.claim-item.is c.loop-claim.invariant.grants c.loop-claim.invariant.board
    c.grant_one.ensures.grants c.grant_one.ensures.board in
    record {
      grants = more.0;
      board = more.1;
      len = c.grant_one.ensures.len ∙ c.loop-claim.invariant.len;
      among = c.grant_one.ensures.among;
      room = c.grant_one.ensures.room;
    }

pub returns-clause-grants : goal.returns-clause-grants
returns-clause-grants c =
    (build_end c.args.channel.now.bursts c.args.claims.now c.loop-claim.claim-index
    c.loop-claim.board c.loop-claim.grants.items _ _ c.loop-claim-test.false c.loop-claim.invariant.grants
    c.loop-claim.invariant.board).0

pub returns-clause-board : goal.returns-clause-board
returns-clause-board c =
    (build_end c.args.channel.now.bursts c.args.claims.now c.loop-claim.claim-index
    c.loop-claim.board c.loop-claim.grants.items _ _ c.loop-claim-test.false c.loop-claim.invariant.grants
    c.loop-claim.invariant.board).1
