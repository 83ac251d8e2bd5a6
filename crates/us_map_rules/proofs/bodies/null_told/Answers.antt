use Rattle.std.proofs.Common.{◌+◌, ap, arith, sym, ◌∙◌}
use Rattle.us_codec.specs.Faults.{elements_at}
use Rattle.us_map_rules.proofs.BodyLemmas.{from_end, from_low, from_next, from_none, null_from, null_from_zero}
use Rattle.us_map_rules.proofs.bodies.null_told.Goals as goal

pub returns-then-from-least : goal.returns-then-from-least
returns-then-from-least c =
    sym (from_low c.loop-first.least (elements_at c.loop-first.rest.now) (elements_at c.in-Some.first.1.now) c.in-Some.first.0
    c.in-Some.ensures.some.0 (omega (arith, c.from.ensures, c.offset-offset.ensures, c.if-from-least.true)))
    ∙ c.loop-first.invariant ∙ null_from_zero (elements_at c.args.elements.now)

pub returns-then-ends_list : goal.returns-then-ends_list
returns-then-ends_list c =
    c.null_here.ensures
    ∙ sym (from_end c.loop-first.least (elements_at c.loop-first.rest.now) (elements_at c.in-Some.first.1.now) c.in-Some.first.0
    c.in-Some.ensures.some.0 (omega (arith, c.from.ensures, c.offset-offset.ensures, c.if-from-least.false))
    (sym c.ends_list.ensures ∙ c.if-ends_list.true))
    ∙ c.loop-first.invariant ∙ null_from_zero (elements_at c.args.elements.now)

pub loop-first-preserved : goal.loop-first-preserved
loop-first-preserved c =
    ap (λ n. null_from (n + 1) (elements_at c.in-Some.first.1.now)) (c.from-least.ensures ∙ c.offset-offset.ensures)
    ∙ sym (from_next c.loop-first.least (elements_at c.loop-first.rest.now) (elements_at c.in-Some.first.1.now) c.in-Some.first.0
    c.in-Some.ensures.some.0 (omega (arith, c.from.ensures, c.offset-offset.ensures, c.if-from-least.false))
    (sym c.ends_list.ensures ∙ c.if-ends_list.false))
    ∙ c.loop-first.invariant

pub returns : goal.returns
returns c =
    sym (from_none c.loop-first.least (elements_at c.loop-first.rest.now) c.in_default.ensures.none)
    ∙ c.loop-first.invariant ∙ null_from_zero (elements_at c.args.elements.now)
