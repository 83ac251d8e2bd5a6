use Rattle.std.proofs.Common.{length, sym, ◌∙◌}
use Rattle.std.proofs.lemmas.Bool.{eqb-true}
use Rattle.us_channel.proofs.BuildLemmas.{build_none}
use Rattle.us_channel.proofs.granting.grant_all.Goals as goal

pub returns-else-not-is_empty-clause-grants : goal.returns-else-not-is_empty-clause-grants
returns-else-not-is_empty-clause-grants c =
    c.clear.ensures.items
    ∙ (build_none c.args.channel.now.bursts c.args.claims.now c.args.board.now
    (eqb-true (length c.args.claims.now) 0 (sym c.if-not-is_empty.ensures))).0

pub returns-else-not-is_empty-clause-board : goal.returns-else-not-is_empty-clause-board
returns-else-not-is_empty-clause-board c =
    (build_none c.args.channel.now.bursts c.args.claims.now c.args.board.now
    (eqb-true (length c.args.claims.now) 0 (sym c.if-not-is_empty.ensures))).1
