use Rattle.std.proofs.Common.{None, ap, rules, refl, sym, subst, ◌∙◌}
use Rattle.std.specs.Prelude.{sum_by}
use Rattle.std.proofs.lemmas.List.Sorted.{IsNonDecreasingBy-from_sort_by_key}
use Rattle.us_lawful.proofs.SameLemmas.{same_moved}
use Rattle.us_map_rules.specs.Minislots.{AreByStart, AreSideBySide}
use Rattle.us_map_rules.proofs.MapRegionLemmas.{moved_failing, sorted_by_start}
use Rattle.us_map_rules.proofs.minislots.first_in_order.Goals as goal

pub returns-then-are_followed : goal.returns-then-are_followed
returns-then-are_followed c = λ side.
    moved_failing c.args.channel.now c.args.len _ _ _ _ None
    (λ f. same_moved _ _ c.sort_unstable_by_key.ensures.permutation f ∙ ap (sum_by f) (sym c.deref.ensures.value)) refl
    (c.are_followed.ensures c.if-are_followed.true)

pub first_by_parts-requires : goal.first_by_parts-requires
first_by_parts-requires c =
    subst AreByStart (sym c.deref-2.ensures.value)
    (sorted_by_start _
    (IsNonDecreasingBy-from_sort_by_key (λ s. s.start) _ c.sort_unstable_by_key.ensures.sorted (λ a r q k. search rules)))

pub returns : goal.returns
returns c = λ side.
    let pieces = c.deref-3.ensures.value ∙ c.in_ok-pieces.ensures in
    moved_failing c.args.channel.now c.args.len _ _ _ _ _
    (λ f. same_moved _ _ c.sort_unstable_by_key.ensures.permutation f ∙ ap (sum_by f) (sym c.deref-2.ensures.value)) pieces
    (c.first_by_parts.ensures (subst (AreSideBySide 0) (sym pieces) side))
