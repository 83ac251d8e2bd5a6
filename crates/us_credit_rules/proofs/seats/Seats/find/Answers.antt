use Rattle.std.proofs.Common.{◌+◌, ◌*◌, None, get_or, sym, ap, ◌∙◌, inl, inr}
use Rattle.std.specs.Prelude.{option_and_then, slice_get}
use Rattle.std.specs.Option.{option_copied}
use Rattle.us_credit_rules.proofs.SeatLemmas.{find_by_code, find_past, lent_is}
use Rattle.us_credit_rules.proofs.seats.Seats.find.Goals as goal
use Rattle.us_credit_rules.proofs.seats.Seats.find.Goals.{then-id-ge-IDS-via-then-id-ge-IDS, then-id-ge-IDS-via-else-id-ge-IDS+then-list-ge-LISTS}

pub returns-then-id-ge-IDS : goal.returns-then-id-ge-IDS
returns-then-id-ge-IDS c =
    let turns = c.self.inside.seats.items in
    let id = c.args.id in
    let list = c.args.list in
    rw (← c.self.view_is)
    (elim c.then-id-ge-IDS.branch [
      | then-id-ge-IDS-via-then-id-ge-IDS w ↦
          sym (find_past id list turns (inl w.if-id-ge-IDS.true) c.self.invariant.seats)
      | then-id-ge-IDS-via-else-id-ge-IDS+then-list-ge-LISTS w ↦
          sym (find_past id list turns (inr w.if-list-ge-LISTS.true) c.self.invariant.seats)
    ])

pub returns-in_err-place : goal.returns-in_err-place
returns-in_err-place c =
    let turns = c.self.inside.seats.items in
    let id = c.args.id in
    let list = c.args.list in
    rw (← c.self.view_is)
    (ap option_copied c.from_residual.ensures
    ∙ ap (option_and_then (slice_get turns)) (c.in_err-place.ensures ∙ ap (λ these. get_or these (id * 2 + list) None) c.deref.ensures.value)
    ∙ c.self.invariant.found (id * 2 + list) ∙ find_by_code id list turns c.if-list-ge-LISTS.false c.self.invariant.seats)

pub returns : goal.returns
returns c =
    let turns = c.self.inside.seats.items in
    let id = c.args.id in
    let list = c.args.list in
    let lent = c.get.ensures.lookup in
    rw (← c.self.view_is)
    (lent_is turns c.in_ok-place.place c.get.result
    (rw (c.from.ensures, c.deref-2.ensures.value) at lent.0) (rw (c.from.ensures, c.deref-2.ensures.value) at lent.1)
    ∙ ap (option_and_then (slice_get turns)) (c.in_ok-place.ensures ∙ ap (λ these. get_or these (id * 2 + list) None) c.deref.ensures.value)
    ∙ c.self.invariant.found (id * 2 + list) ∙ find_by_code id list turns c.if-list-ge-LISTS.false c.self.invariant.seats)
