-- Channels by their places: a change of one of them, and shares on several.
use Rattle.std.proofs.Common.{◌≡◌, ◌≢◌, ℕ, zero, suc, ◌<◌, List, [], ◌∷◌, length, set, get_or, refl, sym, ap, ◌∙◌, eq-eqb, ne_eqb, arith}
use Rattle.us_split.specs.PartialPlans.{Asker, ChannelPlan, with_claim, with_share}
use Rattle.us_split.specs.TurnRows.{changed}

-- the channel at a place is replaced by its change
pub changed_here : (f : ChannelPlan → ChannelPlan) (xs : List ChannelPlan) (place : ℕ) (d : ChannelPlan) →
    place < length xs → set xs place (f (get_or xs place d)) ≡ changed f xs place
changed_here f [] place d within = absurd (omega (arith, within))
changed_here f (c ∷ cs) zero d within = refl
changed_here f (c ∷ cs) (suc place) d within = ap (λ cs. c ∷ cs) (changed_here f cs place d (omega (arith, within)))

-- no share changes nothing,
pub nothing_put : (asker : Asker) (position sid share place : ℕ) (xs : List ChannelPlan) → share ≡ 0 →
    xs ≡ changed (with_share asker position sid share) xs place
nothing_put asker position sid share place [] none = refl
nothing_put asker position sid share zero (c ∷ cs) none = rw (eq-eqb share 0 none) refl
nothing_put asker position sid share (suc place) (c ∷ cs) none =
    ap (λ cs. c ∷ cs) (nothing_put asker position sid share place cs none)

-- and a share above 0 is a claim
pub share_put : (asker : Asker) (position sid share at place : ℕ) (xs : List ChannelPlan) (d y : ChannelPlan) →
    at ≡ place → place < length xs → share ≢ 0 → y ≡ with_claim asker position sid share (get_or xs at d) →
    set xs at y ≡ changed (with_share asker position sid share) xs place
share_put asker position sid share at place xs d y here within some is =
    let claim : with_share asker position sid share (get_or xs at d) ≡ with_claim asker position sid share (get_or xs at d) =
    rw (ne_eqb share 0 some) refl in
    ap (set xs at) (is ∙ sym claim) ∙
    changed_here (with_share asker position sid share) xs at d (omega (arith, here, within)) ∙
    ap (changed (with_share asker position sid share) xs) here

-- so does one that is written back
pub change_put : (f : ChannelPlan → ChannelPlan) (at place : ℕ) (xs : List ChannelPlan) (d y : ChannelPlan) → at ≡ place →
    place < length xs → y ≡ f (get_or xs at d) → set xs at y ≡ changed f xs place
change_put f at place xs d y here within is =
    ap (set xs at) is ∙ changed_here f xs at d (omega (arith, here, within)) ∙ ap (changed f xs) here
