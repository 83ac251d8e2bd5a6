use Rattle.std.proofs.Common.{◌<◌, length, sym, subst, ◌∙◌, arith, eqb-true}
use Rattle.std.proofs.lemmas.Bool.{eqb-false}
use Rattle.us_flows.specs.declared.turns.Turn as places
use Rattle.us_output.proofs.PartLemmas.{all_at}
use Rattle.us_round.specs.Cores.{flow_at}
use Rattle.us_round.proofs.NoRateLemmas.{none_noted}
use Rattle.us_round.proofs.ReserveLemmas.{noted_more}
use Rattle.us_round.proofs.cores.reserving.reserve.Goals as goal

pub returns-then-is_empty : goal.returns-then-is_empty
returns-then-is_empty c =
    none_noted c.args.turns.now c.args.buckets.now.levels c.args.reserves.now c.args.places.now c.requires.room
    (eqb-true (length c.args.reserves.now) 0 (sym c.is_empty.ensures ∙ c.if-is_empty.true))

pub loop-place-preserved : goal.loop-place-preserved
loop-place-preserved c =
    let turns = c.args.turns.now in
    let levels = c.args.buckets.now.levels in
    let at = c.loop-place.place-index in
    let inside : c.from.result < length turns =
    subst (λ p. p < length turns) (sym c.from.ensures)
    (all_at (λ p. p < length turns) c.args.places.now at 0 c.requires.places c.loop-place-test.true) in
    let some : 0 < length c.args.reserves.now =
    omega (arith, eqb-false (length c.args.reserves.now) 0 (sym c.is_empty.ensures ∙ c.if-is_empty.false)) in
    let known : flow_at turns c.from.result < length levels =
    all_at (λ (turn : places.Turn). turn.flow < length levels) turns c.from.result
    (record { flow = 0; list = 0; cluster = 0 }) c.requires.flows inside in
    noted_more turns levels c.loop-place.reserves c.args.places.now at c.from.result c.reserve.result
    (c.loop-place.auto.reserves ∙ c.requires.room.long some) c.loop-place-test.true c.from.ensures known c.reserve.ensures
    c.loop-place.invariant
