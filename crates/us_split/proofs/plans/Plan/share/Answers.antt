use Rattle.std.proofs.Common.{◌≡◌, ℕ, List, [], ◌∷◌, ◌+◌, ◌<◌, Option, Some, None, length, map, drop, get_or, ap, ap₂, ◌∙◌, sym, arith}
use Rattle.std.specs.Prelude.{find}
use Rattle.std.proofs.lemmas.List.{drop_more, length-map, get_or-map}
use Rattle.us_split.specs.Claims.{Claim, is_at, share_of, share_or}
use Rattle.us_split.specs.PartialPlans.{ChannelPlan}
use Rattle.us_split.proofs.plans.Plan.share.Goals as goal

abbrev claims_in : List ChannelPlan → List (List Claim)
claims_in cs = map (λ c. c.claims) cs

-- what is looked up from a channel on
looked_up : (cs : List ChannelPlan) (all : List (List Claim)) (i turn position : ℕ) (channel : ChannelPlan)
    (found : Option Claim) → all ≡ claims_in cs → i < length cs → channel ≡ get_or cs i channel →
    found ≡ find (is_at turn position) channel.claims →
    share_of (drop i all) turn position ≡ share_or found (share_of (drop (i + 1) all) turn position)
looked_up cs all i turn position channel found is within at looked =
    let first : drop i (claims_in cs) ≡ get_or (claims_in cs) i [] ∷ drop (i + 1) (claims_in cs) =
    drop_more (claims_in cs) i [] (omega (arith, length-map cs (λ (c : ChannelPlan). c.claims), within)) in
    let own : get_or (claims_in cs) i [] ≡ channel.claims =
    get_or-map (λ (c : ChannelPlan). c.claims) cs i channel [] within ∙ ap (λ c. c.claims) (sym at) in
    ap (λ xs. share_of (drop i xs) turn position) is ∙
    ap (λ xs. share_of xs turn position) (first ∙ ap (λ x. x ∷ drop (i + 1) (claims_in cs)) own) ∙
    ap₂ (λ f xs. share_or f (share_of (drop (i + 1) xs) turn position)) (sym looked) (sym is)

pub returns-in-Some : goal.returns-in-Some
returns-in-Some c =
    ap (λ x. x.share) c.claim.view_is ∙
    sym (looked_up c.channel_plans-channel-items.result.now c.args.self.now.claims c.loop-channel.channel-index c.args.turn
    c.args.position c.channel-item.result (Some c.in-Some.claim) (sym c.channel_plans-channel-items.ensures)
    c.loop-channel-test.true c.channel-item.is
    (sym c.in-Some.is ∙ c.found_in.ensures ∙ ap (find (is_at c.args.turn c.args.position)) c.claims.ensures)) ∙
    c.loop-channel.invariant

pub loop-channel-preserved : goal.loop-channel-preserved
loop-channel-preserved c =
    sym (looked_up c.channel_plans-channel-items.result.now c.args.self.now.claims c.loop-channel.channel-index c.args.turn
    c.args.position c.channel-item.result None (sym c.channel_plans-channel-items.ensures) c.loop-channel-test.true
    c.channel-item.is
    (sym c.in_default.is ∙ c.found_in.ensures ∙ ap (find (is_at c.args.turn c.args.position)) c.claims.ensures)) ∙
    c.loop-channel.invariant
