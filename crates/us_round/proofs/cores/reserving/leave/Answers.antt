use Rattle.std.proofs.Common.{◌<◌, ◌+◌, ◌∷◌, drop, length, ap, sym, subst, ◌∙◌, arith, eqb-true}
use Rattle.std.proofs.lemmas.List.{drop_all, drop_more, length-set}
use Rattle.us_flows.specs.declared.turns.Turn as places
use Rattle.us_output.proofs.PartLemmas.{all_at}
use Rattle.us_round.specs.Cores.{flow_at, left_at}
use Rattle.us_round.proofs.NoRateLemmas.{none_leaves}
use Rattle.us_round.proofs.cores.reserving.leave.Goals as goal

pub leave-requires : goal.leave-requires
leave-requires c =
    let turns = c.args.turns.now in
    let levels = c.args.buckets.now.levels in
    let inside : c.from.result < length turns =
    subst (λ p. p < length turns) (sym c.from.ensures)
    (all_at (λ p. p < length turns) c.args.places.now c.loop-place.place-index 0 c.requires.places c.loop-place-test.true) in
    let known : flow_at turns c.from.result < length levels =
    all_at (λ (turn : places.Turn). turn.flow < length levels) turns c.from.result
    (record { flow = 0; list = 0; cluster = 0 }) c.requires.flows inside in
    omega (arith, known, c.loop-place.invariant.1)

pub returns-then-is_empty-clause-levels : goal.returns-then-is_empty-clause-levels
returns-then-is_empty-clause-levels c =
    sym (none_leaves c.args.turns.now c.args.left.now c.args.places.now c.args.buckets.now.levels
    (c.requires.room.none (eqb-true (length c.args.left.now) 0 (sym c.is_empty.ensures ∙ c.if-is_empty.true))))

pub loop-place-preserved : goal.loop-place-preserved
loop-place-preserved c =
    let inv = c.loop-place.invariant in
    let turns = c.args.turns.now in
    let left = c.args.left.now in
    let these = c.args.places.now in
    let at = c.loop-place.place-index in
    let now = c.loop-place.buckets.levels in (
      ap (λ ls. left_at turns left (drop (at + 1) these) ls) c.leave.ensures.levels
          ∙ ap (λ ps. left_at turns left ps now)
          (ap (λ p. p ∷ drop (at + 1) these) c.from.ensures ∙ sym (drop_more these at 0 c.loop-place-test.true)) ∙ inv.0,
      ap length c.leave.ensures.levels ∙ length-set now (flow_at turns c.from.result) _ ∙ inv.1,
      c.leave.ensures.ticks ∙ inv.2,
      c.leave.ensures.round ∙ inv.3,
    )

pub returns-clause-levels : goal.returns-clause-levels
returns-clause-levels c =
    let inv = c.loop-place.invariant in
    let none = drop_all c.loop-place.place-index c.args.places.now (omega (arith, c.loop-place-test.false)) in
    sym (ap (λ ps. left_at c.args.turns.now c.args.left.now ps c.loop-place.buckets.levels) none) ∙ inv.0
