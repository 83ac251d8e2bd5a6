use Rattle.std.proofs.Common.{◌∷◌, ap, sym, ◌∙◌}
use Rattle.us_codec.specs.Faults.{elements_at}
use Rattle.us_map_rules.specs.Pieces.{pieces_from}
use Rattle.us_map_rules.proofs.PieceLemmas.{next_of, none_behind, none_of}
use Rattle.us_map_rules.proofs.pieces.next_piece.Goals as goal

pub returns-in_default-clause-none : goal.returns-in_default-clause-none
returns-in_default-clause-none c = none_of c.args.element (elements_at c.args.behind.now) c.in_default.ensures.none

pub returns-then-ends_list-clause-none : goal.returns-then-ends_list-clause-none
returns-then-ends_list-clause-none c =
    none_behind c.args.element (elements_at c.args.behind.now) (sym c.ends_list.ensures ∙ c.if-ends_list.true)

pub returns-clause-some : goal.returns-clause-some
returns-clause-some c =
    let next = c.in-Some.next in
    let first = c.in-Some.ensures.some in (
      next_of c.args.element next.0 (elements_at c.args.behind.now) (elements_at next.1.now) first.0
          (sym c.ends_list.ensures ∙ c.if-ends_list.false)
          ∙ ap (λ p. p ∷ pieces_from next.0 next.1.now) (sym c.region_between.ensures),
      c.region_between.ensures,
      first.1,
    )
