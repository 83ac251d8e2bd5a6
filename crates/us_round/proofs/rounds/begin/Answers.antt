use Rattle.std.proofs.Common.{◌≡◌, length, map, ap, ap₂, sym, subst, ◌∙◌, rules}
use Rattle.std.specs.Vec.{with_items}
use Rattle.std.proofs.lemmas.List.{places, with_items_is}
use Rattle.us_flows.specs.Clusters.{words_of}
use Rattle.us_channel.specs.Channels.{heard}
use Rattle.us_round.specs.Parts.{ArePartsOfRound, state_of}
use Rattle.us_round.specs.Rounds.{begun}
use Rattle.us_round.proofs.StageLemmas.{begun_as, begun_parts}
use Rattle.us_round.proofs.rounds.begin.Goals as goal

pub returns-clause-value : goal.returns-clause-value
returns-clause-value c =
    let old = c.into_parts-parts.result in
    let cut = c.args.cuts.now in
    let now = c.hear_all.new.channels in
    let items : (with_items old.channels now).items ≡ now = with_items_is old.channels now (search (rules, places)) in
    let hear : (with_items old.channels now).items ≡ map (heard cut) old.channels.items =
    items ∙ c.hear_all.ensures ∙ ap (map (heard cut)) c.deref_mut.ensures.value in
    ap₂ (λ k bs. state_of k bs) c.begin.ensures.value hear ∙ begun_as old.core old.channels.items cut
    ∙ ap (λ s. begun s cut) c.into_parts-parts.ensures.value

pub returns-clause-known : goal.returns-clause-known
returns-clause-known c =
    let old = c.into_parts-parts.result in
    let cut = c.args.cuts.now in
    let now = c.hear_all.new.channels in
    let items : (with_items old.channels now).items ≡ now = with_items_is old.channels now (search (rules, places)) in
    let hear : (with_items old.channels now).items ≡ map (heard cut) old.channels.items =
    items ∙ c.hear_all.ensures ∙ ap (map (heard cut)) c.deref_mut.ensures.value in
    subst (λ bs. ArePartsOfRound c.begin.new.self bs) (sym hear)
    (subst (λ k. ArePartsOfRound k (map (heard cut) old.channels.items)) (sym c.begin.ensures.value)
    (begun_parts old.core old.channels.items cut c.into_parts-parts.ensures.known c.begin.ensures.lawful
    (subst (λ s. length cut ≡ length (words_of s.tables)) (sym c.into_parts-parts.ensures.value) c.requires.words)))
