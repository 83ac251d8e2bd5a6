use Rattle.std.proofs.Common.{rules, ◌≡◌, length, replicate, refl, subst}
use Rattle.std.proofs.lemmas.Bool.{OnTrue_from, eqb-true}
use Rattle.std.proofs.lemmas.Fn.{fold_over, fronts, slice_gives}
use Rattle.us_split.proofs.AskerCutLemmas.{idle-push}
use Rattle.us_split.proofs.asking.cuts.are_idle.Goals as goal

pub returns : goal.returns
returns c =
    OnTrue_from _ _ (λ none. subst (λ words. words ≡ replicate (length words) 0) c.iter.ensures.rest
    (fold_over fronts (λ y. y.now) _ (λ words bits. bits ≡ 0 → words ≡ replicate (length words) 0) _
    (λ words bits bytes next f' idle called. search (rules, idle-push words bits bytes.now idle))
    c.iter.result c.iter.result.rest.now 0 c.fold.result (slice_gives c.iter.result) (λ same. refl) c.fold.ensures.ran
    (eqb-true c.fold.result 0 none)))
