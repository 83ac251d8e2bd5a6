use Rattle.std.proofs.Common.{◌-◌, length, sym, subst, ◌∙◌, ap}
use Rattle.std.specs.Prelude.{option_map}
use Rattle.us_holes.specs.Placements.{placed}
use Rattle.us_split.specs.Claims.{Claim}
use Rattle.us_channel.specs.Placements.{grant_at, part_spot, grant_of, with_grant}
use Rattle.us_channel.proofs.SpotLemmas.{IsPriced, granted_at, granted_full, granted_part}
use Rattle.us_channel.proofs.placing.place.Goals as goal

pub returns-in-At-clause-grant : goal.returns-in-At-clause-grant
returns-in-At-clause-grant c =
    let claim : Claim = record {
      claimant = c.claim.inside.claimant;
      turn = c.claim.inside.turn;
      position = c.claim.inside.position;
      sid = c.claim.inside.sid;
      header = c.claim.inside.header;
      share = c.claim.inside.share;
      slots = c.claim.inside.slots;
      iuc = c.claim.inside.iuc;
    } in
    let priced : IsPriced c.args.bursts.now claim =
    subst (IsPriced c.args.bursts.now) (sym c.claim.view_is) (c.requires.slots, c.requires.iuc) in
    let to = ap (λ n. placed c.args.board.now 0 (n - 1) claim.slots) c.len.ensures.value in
    granted_at c.args.bursts.now c.args.board.now claim c.in-At.start c.in-At.slots c.new-owner.result priced
    c.new-owner.ensures (sym c.in-At.is ∙ c.place_earliest.ensures.value ∙ to)
    ∙ ap (grant_of c.args.bursts.now c.args.board.now) c.claim.view_is

pub returns-in-At-clause-board : goal.returns-in-At-clause-board
returns-in-At-clause-board c =
    let claim : Claim = record {
      claimant = c.claim.inside.claimant;
      turn = c.claim.inside.turn;
      position = c.claim.inside.position;
      sid = c.claim.inside.sid;
      header = c.claim.inside.header;
      share = c.claim.inside.share;
      slots = c.claim.inside.slots;
      iuc = c.claim.inside.iuc;
    } in
    let priced : IsPriced c.args.bursts.now claim =
    subst (IsPriced c.args.bursts.now) (sym c.claim.view_is) (c.requires.slots, c.requires.iuc) in
    let to = ap (λ n. placed c.args.board.now 0 (n - 1) claim.slots) c.len.ensures.value in
    let found = granted_at c.args.bursts.now c.args.board.now claim c.in-At.start c.in-At.slots c.new-owner.result priced
    c.new-owner.ensures (sym c.in-At.is ∙ c.place_earliest.ensures.value ∙ to)
    ∙ ap (grant_of c.args.bursts.now c.args.board.now) c.claim.view_is in
    c.in-At.ensures.board ∙ ap (with_grant c.args.board.now) found

pub returns-in-Full-clause-grant : goal.returns-in-Full-clause-grant
returns-in-Full-clause-grant c =
    let claim : Claim = record {
      claimant = c.claim.inside.claimant;
      turn = c.claim.inside.turn;
      position = c.claim.inside.position;
      sid = c.claim.inside.sid;
      header = c.claim.inside.header;
      share = c.claim.inside.share;
      slots = c.claim.inside.slots;
      iuc = c.claim.inside.iuc;
    } in
    let priced : IsPriced c.args.bursts.now claim =
    subst (IsPriced c.args.bursts.now) (sym c.claim.view_is) (c.requires.slots, c.requires.iuc) in
    let to = ap (λ n. placed c.args.board.now 0 (n - 1) claim.slots) c.len.ensures.value in
    sym (granted_full c.args.bursts.now c.args.board.now claim priced
    (sym c.in-Full.is ∙ c.place_earliest.ensures.value ∙ to))
    ∙ ap (grant_of c.args.bursts.now c.args.board.now) c.claim.view_is

pub returns-in-Full-clause-board : goal.returns-in-Full-clause-board
returns-in-Full-clause-board c =
    let claim : Claim = record {
      claimant = c.claim.inside.claimant;
      turn = c.claim.inside.turn;
      position = c.claim.inside.position;
      sid = c.claim.inside.sid;
      header = c.claim.inside.header;
      share = c.claim.inside.share;
      slots = c.claim.inside.slots;
      iuc = c.claim.inside.iuc;
    } in
    let priced : IsPriced c.args.bursts.now claim =
    subst (IsPriced c.args.bursts.now) (sym c.claim.view_is) (c.requires.slots, c.requires.iuc) in
    let to = ap (λ n. placed c.args.board.now 0 (n - 1) claim.slots) c.len.ensures.value in
    let found = sym (granted_full c.args.bursts.now c.args.board.now claim priced
    (sym c.in-Full.is ∙ c.place_earliest.ensures.value ∙ to))
    ∙ ap (grant_of c.args.bursts.now c.args.board.now) c.claim.view_is in
    c.in-Full.ensures.board ∙ ap (with_grant c.args.board.now) found

pub returns-in-NoRoom-clause-grant : goal.returns-in-NoRoom-clause-grant
returns-in-NoRoom-clause-grant c =
    let claim : Claim = record {
      claimant = c.claim.inside.claimant;
      turn = c.claim.inside.turn;
      position = c.claim.inside.position;
      sid = c.claim.inside.sid;
      header = c.claim.inside.header;
      share = c.claim.inside.share;
      slots = c.claim.inside.slots;
      iuc = c.claim.inside.iuc;
    } in
    let priced : IsPriced c.args.bursts.now claim =
    subst (IsPriced c.args.bursts.now) (sym c.claim.view_is) (c.requires.slots, c.requires.iuc) in
    let to = ap (λ n. placed c.args.board.now 0 (n - 1) claim.slots) c.len.ensures.value in
    let same = ap (λ board. option_map (grant_at c.args.bursts.now c.args.claim.now)
    (part_spot c.args.bursts.now c.args.claim.now.header board)) c.in-NoRoom.ensures.board in
    c.place_part.ensures.grant ∙ same ∙ granted_part c.args.bursts.now c.args.board.now c.args.claim.now (c.requires.slots, c.requires.iuc)
    (sym c.in-NoRoom.is ∙ c.place_earliest.ensures.value ∙ to ∙
    ap (λ x. placed c.args.board.now 0 (length c.args.board.now.cells - 1) x.slots) c.claim.view_is)

pub returns-in-NoRoom-clause-board : goal.returns-in-NoRoom-clause-board
returns-in-NoRoom-clause-board c =
    let claim : Claim = record {
      claimant = c.claim.inside.claimant;
      turn = c.claim.inside.turn;
      position = c.claim.inside.position;
      sid = c.claim.inside.sid;
      header = c.claim.inside.header;
      share = c.claim.inside.share;
      slots = c.claim.inside.slots;
      iuc = c.claim.inside.iuc;
    } in
    let priced : IsPriced c.args.bursts.now claim =
    subst (IsPriced c.args.bursts.now) (sym c.claim.view_is) (c.requires.slots, c.requires.iuc) in
    let to = ap (λ n. placed c.args.board.now 0 (n - 1) claim.slots) c.len.ensures.value in
    let found = granted_part c.args.bursts.now c.args.board.now c.args.claim.now (c.requires.slots, c.requires.iuc)
    (sym c.in-NoRoom.is ∙ c.place_earliest.ensures.value ∙ to ∙
    ap (λ x. placed c.args.board.now 0 (length c.args.board.now.cells - 1) x.slots) c.claim.view_is) in
    let same = ap (λ board. with_grant board (option_map (grant_at c.args.bursts.now c.args.claim.now)
    (part_spot c.args.bursts.now c.args.claim.now.header board))) c.in-NoRoom.ensures.board in
    c.place_part.ensures.board ∙ same ∙ ap (with_grant c.args.board.now) found
