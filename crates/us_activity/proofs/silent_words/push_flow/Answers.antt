use Rattle.std.proofs.Common.{◌≡◌, ◌==◌, ◌<◌, ◌++◌, [], ◌∷◌, sym, ap, subst, ◌∙◌}
use Rattle.std.specs.Prelude.{◌&&◌}
use Rattle.us_flows.specs.Clusters.{tells_activity, Silent}
use Rattle.us_activity.proofs.WordLemmas.{word_more}
use Rattle.us_activity.proofs.silent_words.push_flow.Goals as goal
use Rattle.us_activity.proofs.silent_words.push_flow.Goals.{then-tells, else-tells}

pub loop-place-preserved : goal.loop-place-preserved
loop-place-preserved c =
    let flow = c.args.flow.now in
    let place = c.loop-place.place in
    let told = c.tells_activity-tells.ensures.value ∙ ap tells_activity c.kind.ensures.value in
    let flag : c.if-tells.push ≡ (tells_activity flow.kind && (place == 0)) = elim c.if-tells.branch [
      | then-tells w ↦ w.push-is ∙ ap (λ b. b && (place == 0)) (sym w.if-tells.true ∙ told)
      | else-tells w ↦ w.push-is ∙ w.if-tells.false ∙ ap (λ b. b && (place == 0)) (sym w.if-tells.false ∙ told)
    ] in
    let inside = subst (λ n. place < n) c.words-place-end.ensures.value c.loop-place-test.true in
    c.in_ok-push.ensures.items
    ∙ ap (λ b. c.loop-place.silent.items ++ b ∷ []) flag
    ∙ word_more flow c.args.silent.now.items c.loop-place.silent.items place (Silent flow) inside c.loop-place.invariant
