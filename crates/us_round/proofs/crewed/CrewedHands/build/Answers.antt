use Rattle.std.proofs.Common.{◌≡◌, ap, subst, ◌∙◌}
use Rattle.std.specs.Prelude.{IfOk}
use Rattle.std.proofs.lemmas.Result.{IfOk-weaker}
use Rattle.us_crew.specs.Values.{values_of}
use Rattle.us_round.specs.Hands.{built_at}
use Rattle.us_round.specs.Placing.{placed}
use Rattle.us_round.proofs.PlacingLemmas.{firsts_of, firsts}
use Rattle.us_round.proofs.crewed.CrewedHands.build.Goals as goal

pub map_kept-requires : goal.map_kept-requires
map_kept-requires g c = λ place item is entered.
    let found = c.in_ok-items.ensures.ready place item is in
    found.2 (c.requires.claims place found.0 found.1 entered)

pub returns-clause-value : goal.returns-clause-value
returns-clause-value g c =
    let items = c.in_ok-items.items.items in
    let are = subst (λ r. IfOk r (λ all. all.items ≡ values_of (λ _ item. (placed item.0 item.1.items, item.1)) items))
    c.in_ok-all.ensures.value c.map_kept.ensures.values in
    IfOk-weaker c.unladen.result (λ all. all.items ≡ firsts_of c.in_ok-all.all.items)
    (λ all. all.items ≡ values_of (built_at c.args.work.now) c.args.channels.items)
    (λ all is. is ∙ ap firsts_of are ∙ firsts (λ item. placed item.0 item.1.items) (λ item. item.1) 0 items
    ∙ c.in_ok-items.ensures.value) c.unladen.ensures
