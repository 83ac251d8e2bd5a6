use Rattle.std.proofs.Common.{◌≡◌, arith, ap, sym, subst, ◌∙◌}
use Rattle.us_lawful.specs.Regions.{element_regions}
use Rattle.us_map_rules.specs.Pieces.{pieces_from}
use Rattle.us_map_rules.proofs.FollowLemmas.{Follows, end_follows, follows_hold, none_told, step_follows}
use Rattle.us_map_rules.proofs.minislots.are_followed.Goals as goal

pub loop-region-init : goal.loop-region-init
loop-region-init c = λ follows.
    let first = c.in-Some.first in
    let zero : first.0.offset ≡ 0 = omega (arith, c.offset.ensures, c.if-offset-gt0.false) in
    subst (Follows c.args.channel.now c.args.len 0 c.args.regions.now) (sym (ap element_regions c.in-Some.ensures.some.0))
    (subst (λ from. Follows c.args.channel.now c.args.len from c.args.regions.now (pieces_from first.0 first.1.now)) zero follows)

pub loop-region-preserved : goal.loop-region-preserved
loop-region-preserved c = λ follows.
    let behind = c.in-Some-behind_region.ensures in
    c.loop-region.invariant (step_follows _ _ _ _ _ _ _ _ _ _ _ c.loop-region-test.true
    (c.region.view_is ∙ c.region-item.is) c.in-Some-behind_gap.ensures.1 (behind.1, behind.2) behind.0 follows)

pub returns-in-Some-behind_gap-2 : goal.returns-in-Some-behind_gap-2
returns-in-Some-behind_gap-2 c = λ yes.
    follows_hold _ _ _ _ (c.loop-region.invariant
    (end_follows _ _ _ _ _ _ _ c.loop-region-test.false c.in-Some-behind_gap-2.ensures.1
    (none_told _ _ _ c.is_none.ensures yes c.next_piece.ensures.none)))
