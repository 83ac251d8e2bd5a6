use Rattle.std.proofs.Common.{◌≡◌, ◌<◌, ◌≤◌, length, map, flat_map, get_or, ap, subst, ◌∙◌}
use Rattle.std.proofs.lemmas.List.{take_all}
use Rattle.us_flows.specs.Clusters.{words_in}
use Rattle.us_activity.specs.Kept.{is_silent}
use Rattle.us_activity.proofs.WordLemmas.{flow_more}
use Rattle.us_activity.proofs.silent_words.silent_words.Goals as goal

pub loop-flow-preserved : goal.loop-flow-preserved
loop-flow-preserved c =
    let flows = c.args.config.now.flows in
    let place = c.loop-flow.flow-index in
    let flow = c.flow-item.result in
    let told = c.flows-flow-items.ensures.value in
    let inside = subst (λ fs. place < length fs) told c.loop-flow-test.true in
    let at = subst (λ fs. flow ≡ get_or fs place flow) told c.flow-item.is in
    c.in_ok-push_flow.ensures ∙ flow_more flows c.loop-flow.silent.items place flow flow inside at c.loop-flow.invariant

pub returns : goal.returns
returns c =
    let flows = c.args.config.now.flows in
    let place = c.loop-flow.flow-index in
    let done = subst (λ fs. length fs ≤ place) c.flows-flow-items.ensures.value c.loop-flow-test.false in
    c.loop-flow.invariant ∙ ap (λ fs. map is_silent (flat_map words_in fs)) (take_all place flows done)
