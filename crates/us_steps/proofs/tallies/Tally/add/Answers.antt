use Rattle.std.proofs.Common.{◌≡◌, not, get_or, slice_set, false, true, ap, sym, ◌∙◌, arith, rules, Some}
use Rattle.std.proofs.lemmas.List.{with_items_is, places}
use Rattle.us_requests.specs.declared.asks.Ask.{Ask}
use Rattle.us_steps.specs.Machines as machine
use Rattle.us_steps.specs.Tallies as spec
use Rattle.us_steps.proofs.TallyLemmas.{not-true, row_room, row_added}
use Rattle.us_steps.proofs.tallies.Tally.add.Goals as goal

pub raise-requires-clause-room : goal.raise-requires-clause-room
raise-requires-clause-room c =
    let l : spec.Tally = c.args.self.now in
    let none : Ask = record { cluster = 0; bytes = 0 } in
    let flags = c.as_mut_slice-added.ensures.value ∙ ap (λ m. m.added) c.self.view_is in
    let clear : get_or l.added c.args.row true ≡ false =
    not-true (get_or l.added c.args.row true)
    (ap (λ fs. not (get_or fs c.args.row true)) (sym flags) ∙ sym c.mark.ensures.value ∙ c.if-not-mark.false) in
    let words : c.as_mut_slice-words.result.now ≡ l.words = c.as_mut_slice-words.ensures.value ∙ ap (λ m. m.words) c.self.view_is in
    rw words (omega (arith, row_room c.args.rows.now l c.args.row none c.requires.ready clear))

pub returns : goal.returns
returns c =
    let l : spec.Tally = c.args.self.now in
    let none : Ask = record { cluster = 0; bytes = 0 } in
    let flags = c.as_mut_slice-added.ensures.value ∙ ap (λ m. m.added) c.self.view_is in
    let clear : get_or l.added c.args.row true ≡ false =
    not-true (get_or l.added c.args.row true)
    (ap (λ fs. not (get_or fs c.args.row true)) (sym flags) ∙ sym c.mark.ensures.value ∙ c.if-not-mark.false) in
    rw (
      with_items_is c.self.inside.words c.raise.new.words (search (rules, places)),
      with_items_is c.self.inside.added c.mark.new.flags (search (rules, places)),
    ) (row_added c.args.rows.now l _ c.args.row none _ _ c.self.view_is c.requires.ready.sized.added clear
    (c.raise.ensures ∙ ap (λ ws. machine.raised ws (Some (get_or c.args.rows.now c.args.row none))) c.as_mut_slice-words.ensures.value)
    (c.mark.ensures.flags c.if-not-mark.false ∙ ap (λ fs. slice_set fs c.args.row true) c.as_mut_slice-added.ensures.value))
