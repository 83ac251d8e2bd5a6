use Rattle.std.proofs.Common.{◌≡◌, ℕ, ◌+◌, ◌<◌, ◌∷◌, List, drop, length, slice_set, slice_index_or, sym, ap, ap₂, subst, ◌∙◌, arith}
use Rattle.std.proofs.lemmas.List.{drop_more, drop_all}
use Rattle.us_bucket.specs.Levels.{spent}
use Rattle.us_split.specs.Asking.{credited}
use Rattle.us_channel.specs.Placements.{PlacedClaim}
use Rattle.us_round.specs.Cores.{IsCrediting}
use Rattle.us_round.proofs.CreditingLemmas.{crediting_end, crediting_one, may_leave}
use Rattle.us_round.proofs.cores.crediting.credit_grants.Goals as goal

-- the grants that are left begin with this one
rest : (grants : List PlacedClaim) (at : ℕ) (g : PlacedClaim) → at < length grants → g ≡ slice_index_or grants at g →
    drop at grants ≡ g ∷ drop (at + 1) grants
rest grants at g inside is = drop_more grants at g inside ∙ ap (λ x. x ∷ drop (at + 1) grants) (sym is)

pub spend-requires-clause-has : goal.spend-requires-clause-has
spend-requires-clause-has c d =
    let g = c.grant-item.result in
    let all = c.args.grants.now in
    let gs = drop (c.loop-grant.grant-index + 1) all in
    let same = rest all c.loop-grant.grant-index g c.loop-grant-test.true c.grant-item.is in
    let is = subst (λ gs. IsCrediting gs all c.args.askers.now c.loop-grant.askers c.args.buckets.now c.loop-grant.buckets)
    same c.loop-grant.invariant in
    let has = may_leave g gs all c.args.askers.now c.loop-grant.askers c.args.buckets.now c.loop-grant.buckets is in
    rw (c.place.ensures, c.from-credit.ensures, c.credit.ensures) (has.1 d)

pub loop-grant-preserved : goal.loop-grant-preserved
loop-grant-preserved c =
    let g = c.grant-item.result in
    let all = c.args.grants.now in
    let gs = drop (c.loop-grant.grant-index + 1) all in
    let same = rest all c.loop-grant.grant-index g c.loop-grant-test.true c.grant-item.is in
    let is = subst (λ gs. IsCrediting gs all c.args.askers.now c.loop-grant.askers c.args.buckets.now c.loop-grant.buckets)
    same c.loop-grant.invariant in
    let credit = c.from-credit.ensures ∙ c.credit.ensures in
    let levels = c.loop-grant.buckets.levels in
    crediting_one g gs all c.args.askers.now c.loop-grant.askers c.credit-in-loop-grant.new.self c.args.buckets.now
    c.loop-grant.buckets c.spend.new.self is
    (c.credit-in-loop-grant.ensures ∙ ap₂ (λ n b. credited n b c.loop-grant.askers) c.cluster.ensures credit)
    (λ d. c.spend.ensures.levels d ∙
    ap₂ (λ p b. slice_set levels p (spent b (slice_index_or levels p d))) c.place.ensures credit)
    c.spend.ensures.ticks c.spend.ensures.round

pub returns : goal.returns
returns c =
    let all = c.args.grants.now in
    let none = drop_all c.loop-grant.grant-index all (omega (arith, c.loop-grant-test.false)) in
    crediting_end all c.args.askers.now c.loop-grant.askers c.args.buckets.now c.loop-grant.buckets
    (subst (λ gs. IsCrediting gs all c.args.askers.now c.loop-grant.askers c.args.buckets.now c.loop-grant.buckets) none
    c.loop-grant.invariant)
