use Rattle.std.proofs.Common.{◌≡◌, ◌+◌, ◌==◌, Some, None, get_or, sym, subst, ap, ◌∙◌, arith}
use Rattle.std.specs.Prelude.{if◌then◌else◌}
use Rattle.us_map_rules.specs.Listed.{ArePlaces, HasKey, key_of}
use Rattle.us_map_rules.proofs.ListedLemmas.{key_more}
use Rattle.us_map_rules.proofs.listed.places_of.Goals as goal

pub loop-place-preserved : goal.loop-place-preserved
loop-place-preserved c = λ key.
    let es = c.args.entries.now in
    let i = c.loop-place.place in
    let l = c.index-entries-place.result in
    let before = get_or c.loop-place.places.items key None in
    let own : c.key_of.result ≡ key_of l.entry = c.key_of.ensures.value ∙ ap (λ m. key_of m.entry) c.listed.view_is in
    subst (HasKey key es (i + 1))
    (sym (c.in_ok-put.ensures key ∙ ap (λ k. if k == key then Some i else before) own))
    (key_more es i l c.loop-place-test.true c.index-entries-place.is key before (c.loop-place.invariant key))

pub returns : goal.returns
returns c =
    subst (λ count. ArePlaces c.args.entries.now count c.loop-place.places.items) (omega (arith, c.loop-place-test.false))
    c.loop-place.invariant
