use Rattle.std.proofs.Common.{◌≡◌, ◌+◌, ◌/◌, true, false, refl, ap, subst, sym, ◌∙◌}
use Rattle.us_lint.specs.Windows.{AreMaps, HasRoom}
use Rattle.us_lint.proofs.RoomLemmas.{room_in_third}
use Rattle.us_lint.proofs.empty_maps.EmptyMaps.have_room.Goals as goal
use Rattle.us_lint.proofs.empty_maps.EmptyMaps.have_room.Goals.{then-has_room, else-has_room}

-- There is no room in the first MAP and in the one behind it, where the one behind that is looked at.
pub returns-else-has_room-2 : goal.returns-else-has_room-2
returns-else-has_room-2 c =
    let m = c.args.self.now in
    let from = c.from-from.result in
    let are = subst AreMaps c.self.view_is c.self.invariant in
    let from_is = c.from-from.ensures ∙ ap (λ m. c.args.first / m.len) c.self.view_is in
    let no_first : HasRoom m from c.args.slots c.args.first c.args.last → ⊥ = λ h.
    elim c.if-has_room.branch [
      | then-has_room v ↦ let never : true ≡ false = sym v.if-has_room.true ∙ sym v.value-is ∙ c.if-has_room-2.false in absurd cc
      | else-has_room v ↦ let never : true ≡ false = sym (c.has_room.ensures.1 h) ∙ v.if-has_room.false in absurd cc
    ] in
    let no_second : HasRoom m (from + 1) c.args.slots c.args.first c.args.last → ⊥ = λ h.
    elim c.if-has_room.branch [
      | then-has_room v ↦ let never : true ≡ false = sym v.if-has_room.true ∙ sym v.value-is ∙ c.if-has_room-2.false in absurd cc
      | else-has_room v ↦
          let never : true ≡ false =
          sym (v.has_room-else-has_room.ensures.1 h) ∙ sym v.value-is ∙ c.if-has_room-2.false in absurd cc
    ] in (
      λ t. (from + 2, c.has_room-else-has_room-2.ensures.0 t),
      λ found. c.has_room-else-has_room-2.ensures.1 (room_in_third m are c.args.slots c.args.first c.args.last
          c.requires from (c.args.last / m.len) from_is refl no_first no_second found.0 found.1),
    )
