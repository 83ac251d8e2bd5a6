use Rattle.std.proofs.Common.{◌≡◌, length, ap, ap₂, sym, refl, ◌∙◌, subst, filter, vec_capacity, arith}
use Rattle.std.specs.Vec.{with_items}
use Rattle.std.specs.Prelude.{slice_index}
use Rattle.us_flows.specs.Clusters.{turns_of}
use Rattle.us_split.specs.Asking.{asks, settled, pending_places, is_pending, numbers_of}
use Rattle.us_split.specs.Askers.{AreAskers}
use Rattle.us_split.proofs.AskerLemmas.{places-few}
use Rattle.us_split.proofs.AskerStepLemmas.{askers-settled, copied, listed-below, same_asking, pending-is}
use Rattle.us_split.proofs.asking.Askers.settle.Goals as goal

-- what is left was copied over what was outstanding
abbrev After : Type 0
After = goal.After-self-1

brought : (c : After) → (with_items c.self.inside.outstanding c.copy_from_slice.new.self).items ≡ c.self.inside.left.items
brought c =
    let a = c.self.inside in
    let same : c.copy_from_slice.new.self ≡ a.left.items = c.copy_from_slice.ensures.after ∙ c.deref-7.ensures.value in
    copied a.outstanding.items c.copy_from_slice.new.self a.outstanding.len a.outstanding.ok.0
    (ap length same ∙ c.self.invariant.bytes.one_each) ∙ same

pub note_pending-requires-clause-places : goal.note_pending-requires-clause-places
note_pending-requires-clause-places c =
    let a = c.self.inside in
    rw (c.deref.ensures.value, c.deref-2.ensures.value)
    (listed-below a.numbers.items a.outstanding.items a.asking.items c.self.invariant.listed)

pub note_pending-requires-clause-numbers : goal.note_pending-requires-clause-numbers
note_pending-requires-clause-numbers c =
    rw (c.deref-2.ensures.value, c.deref-3.ensures.value) c.self.invariant.turns.below

pub note_pending-requires-clause-room : goal.note_pending-requires-clause-room
note_pending-requires-clause-room c =
    let a = c.self.inside in
    omega (
      arith,
      ap length c.deref.ensures.value,
      ap length c.self.invariant.listed,
      c.self.invariant.room_for_pending,
      places-few (asks a.outstanding.items) 0 a.numbers.items,
    )

pub drop_answered-requires-clause-places : goal.drop_answered-requires-clause-places
drop_answered-requires-clause-places c =
    let a = c.self.inside in
    rw c.deref-5.ensures.value (listed-below a.numbers.items a.outstanding.items a.asking.items c.self.invariant.listed)

pub drop_answered-requires-clause-numbers : goal.drop_answered-requires-clause-numbers
drop_answered-requires-clause-numbers c =
    let a = c.self.inside in
    rw (c.deref-5.ensures.value, c.deref-6.ensures.value, c.self.invariant.bytes.one_each) c.self.invariant.turns.below

pub invariant_of-self : goal.invariant_of-self
invariant_of-self c =
    let a = c.self.inside in
    let kept = c.drop_answered.ensures.items ∙ ap₂ (λ ns ls. filter (λ at. asks ls (slice_index ns at)) a.asking.items)
    c.deref-5.ensures.value c.deref-6.ensures.value in
    subst (λ bytes. AreAskers a.tables.value a.numbers.items a.places.items bytes a.left.items c.drop_answered.new.list.items
    (vec_capacity c.drop_answered.new.list) (vec_capacity c.note_pending.new.pending)) (sym (brought c)) (
    askers-settled a.tables.value a.numbers.items a.places.items a.outstanding.items a.left.items a.asking.items
    c.drop_answered.new.list.items _ _ _ _ c.self.invariant kept
    (omega (arith, c.drop_answered.ensures.capacity)) (omega (arith, c.note_pending.ensures.capacity))
    )

pub returns : goal.returns
returns c =
    let a = c.self.inside in
    let noted = c.note_pending.ensures.items ∙
    ap (filter (λ at. is_pending c.deref-3.result.now c.deref-4.result.now (slice_index c.deref-2.result.now at))) c.deref.ensures.value ∙
    ap (λ ns. filter (λ at. is_pending c.deref-3.result.now c.deref-4.result.now (slice_index ns at)) a.asking.items) c.deref-2.ensures.value ∙
    ap₂ (λ os ls. filter (λ at. is_pending os ls (slice_index a.numbers.items at)) a.asking.items) c.deref-3.ensures.value c.deref-4.ensures.value ∙
    pending-is a.numbers.items a.outstanding.items a.left.items a.asking.items c.self.invariant.bytes c.self.invariant.listed ∙
    ap (pending_places a.outstanding.items a.left.items) c.self.invariant.of_turns in
    same_asking (record {
      tables = a.tables.value;
      outstanding = (with_items a.outstanding c.copy_from_slice.new.self).items;
      left = a.left.items;
      pending = c.note_pending.new.pending.items;
    }) a.tables.value a.left.items a.left.items
    (pending_places a.outstanding.items a.left.items (numbers_of (turns_of a.tables.value))) refl (brought c) refl noted ∙
    ap settled c.self.view_is
