use Rattle.std.proofs.Common.{◌∙◌, ap, arith, sym, subst}
use Rattle.std.specs.Prelude.{IfNone}
use Rattle.std.specs.List.{list_all}
use Rattle.std.proofs.lemmas.Bool.{false≢true}
use Rattle.us_codec.specs.Bodies.{MapBody, SpellsMap}
use Rattle.us_codec.specs.declared.heads.Head.{Head}
use Rattle.us_codec.specs.Faults.{elements_at, is_backoff, starts_at_zero}
use Rattle.us_map_rules.specs.Bodies.{is_list}
use Rattle.us_map_rules.proofs.BodyLemmas.{body_found, body_passes, no_front, null_passes}
use Rattle.us_map_rules.proofs.bodies.body_told.Goals as goal

pub returns-then-not-has_front-clause-none : goal.returns-then-not-has_front-clause-none
returns-then-not-has_front-clause-none c =
    no_front c.args.body.now (λ is. false≢true (sym c.if-not-has_front.true ∙ c.has_front.ensures.1 is))

pub returns-then-not-has_lawful_backoffs-clause-none : goal.returns-then-not-has_lawful_backoffs-clause-none
returns-then-not-has_lawful_backoffs-clause-none c = λ m spells.
    false≢true (sym c.if-not-has_lawful_backoffs.true ∙ c.has_lawful_backoffs.ensures
    ∙ ap (λ (h : Head). list_all is_backoff h.backoffs) c.head_at-head.ensures.value
    ∙ (body_passes c.args.body.now m spells).backoffs)

pub returns-then-not-starts_at_zero-clause-none : goal.returns-then-not-starts_at_zero-clause-none
returns-then-not-starts_at_zero-clause-none c = λ m spells.
    false≢true (sym c.if-not-starts_at_zero.true ∙ c.starts_at_zero.ensures
    ∙ ap (λ bytes. starts_at_zero (elements_at bytes)) c.split_at.ensures.back
    ∙ (body_passes c.args.body.now m spells).starts)

pub returns-in_err-len-clause-none : goal.returns-in_err-len-clause-none
returns-in_err-len-clause-none c =
    subst (λ r. IfNone r ((m : MapBody) → SpellsMap c.args.body.now m → ⊥)) (sym c.from_residual.ensures)
    (λ m spells. null_passes (elements_at c.split_at.result.1.now)
    (ap (λ bytes. is_list (elements_at bytes)) c.split_at.ensures.back ∙ (body_passes c.args.body.now m spells).list)
    (sym c.null_told.ensures ∙ c.in_err-len.was))

pub returns-clause-some : goal.returns-clause-some
returns-clause-some c =
    body_found c.args.body.now c.split_at.result.1.now c.head_at-head.result c.in_ok-len.len
    (c.has_front.ensures.0 c.if-not-has_front.false) (λ i. omega (arith, c.type_inv.body i))
    c.split_at.ensures.back c.head_at-head.ensures.value c.head_at-head.ensures.fits
    (sym c.has_lawful_backoffs.ensures ∙ c.if-not-has_lawful_backoffs.false)
    (sym c.starts_at_zero.ensures ∙ c.if-not-starts_at_zero.false) (sym c.null_told.ensures ∙ c.in_ok-len.was)
