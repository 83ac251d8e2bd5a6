use Rattle.std.proofs.Common.{length, sum, ap, sym, ◌∙◌, arith}
use Rattle.us_slots.specs.Lists.{added}
use Rattle.us_intake.proofs.TallyLemmas.{empty-added}
use Rattle.us_intake.proofs.tallies.add_up.Goals as goal

pub add_to-requires-2-clause-row : goal.add_to-requires-2-clause-row
add_to-requires-2-clause-row c =
    let one = c.args.one.now in
    let same = c.add_to.ensures ∙ ap (λ l. added l one.items) c.requires.empty ∙ empty-added one.len one.items (sym one.ok.0) in
    omega (arith, ap length same, c.requires.row, one.ok.0, c.add_to.new.tally.ok.0)

pub add_to-requires-2-clause-fits : goal.add_to-requires-2-clause-fits
add_to-requires-2-clause-fits c =
    let one = c.args.one.now in
    let same = c.add_to.ensures ∙ ap (λ l. added l one.items) c.requires.empty ∙ empty-added one.len one.items (sym one.ok.0) in
    omega (arith, ap (λ l. sum l) same, c.requires.fits)

pub returns : goal.returns
returns c =
    let one = c.args.one.now in
    c.add_to-2.ensures
    ∙ ap (λ l. added l c.args.other.now.items) (c.add_to.ensures ∙ ap (λ l. added l one.items) c.requires.empty
    ∙ empty-added one.len one.items (sym one.ok.0))
