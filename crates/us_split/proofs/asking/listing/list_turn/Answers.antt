use Rattle.std.proofs.Common.{◌≡◌, true, not, ap, subst, sym, ◌∙◌, eq-eqb, arith}
use Rattle.std.specs.Prelude.{if◌then◌else◌, is_ok}
use Rattle.std.specs.List.{insert}
use Rattle.us_split.specs.Askers.{IsPartedAt, put_in}
use Rattle.us_split.proofs.AskerLemmas.{insert-parted}
use Rattle.us_split.proofs.asking.listing.list_turn.Goals as goal

pub returns-clause-items : goal.returns-clause-items
returns-clause-items c =
    let list = c.args.list.now.items in
    let place = c.args.place in
    let at = c.first_from-at.result in
    let parted = subst (λ xs. IsPartedAt xs place at) c.deref.ensures.value c.first_from-at.ensures in
    let ok : is_ok c.insert.result ≡ true = c.is_err.ensures.negation ∙ ap not c.if-is_err.false in
    c.insert.ensures.items ∙ ap (λ b. if b then insert list at place else list) ok ∙ insert-parted list place at parted ∙
    sym (ap (λ b. if b then put_in place list else list) (eq-eqb c.args.before 0 (omega (arith, c.if-before-gt0.false))))
