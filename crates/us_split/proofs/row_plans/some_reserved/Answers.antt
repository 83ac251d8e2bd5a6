use Rattle.std.proofs.Common.{ℕ, ◌+◌, ◌||◌, Bool, drop, ap, ◌∙◌, sym, eqb-true, length, lt-ltb, le-ltb}
use Rattle.us_split.specs.TurnRows.{some_reserved}
use Rattle.us_split.proofs.RowPassLemmas.{none_listed, reserved_at}
use Rattle.us_split.proofs.row_plans.some_reserved.Goals as goal

pub returns-then-is_empty : goal.returns-then-is_empty
returns-then-is_empty c =
    sym (none_listed c.args.rows.now c.args.reserves.now c.args.askers.now
    (eqb-true (length c.args.reserves.now) 0 (sym c.is_empty.ensures ∙ c.if-is_empty.true)))

pub returns-then-reserve_for-gt0 : goal.returns-then-reserve_for-gt0
returns-then-reserve_for-gt0 c =
    let i : ℕ = c.loop-place.place-index in
    let rest : Bool = some_reserved c.args.rows.now c.args.reserves.now (drop (i + 1) c.args.askers.now) in
    sym (sym c.loop-place.invariant ∙
    reserved_at c.args.rows.now c.args.reserves.now c.args.askers.now i c.from.result c.reserve_for.result
    c.index-rows-from.result c.requires.askers c.loop-place-test.true c.from.ensures c.index-rows-from.is
    c.reserve_for.ensures ∙
    ap (λ b. b || rest) (lt-ltb 0 c.reserve_for.result c.if-reserve_for-gt0.true))

pub loop-place-preserved : goal.loop-place-preserved
loop-place-preserved c =
    let i : ℕ = c.loop-place.place-index in
    let rest : Bool = some_reserved c.args.rows.now c.args.reserves.now (drop (i + 1) c.args.askers.now) in
    sym (reserved_at c.args.rows.now c.args.reserves.now c.args.askers.now i c.from.result c.reserve_for.result
    c.index-rows-from.result c.requires.askers c.loop-place-test.true c.from.ensures c.index-rows-from.is
    c.reserve_for.ensures ∙
    ap (λ b. b || rest) (le-ltb 0 c.reserve_for.result c.if-reserve_for-gt0.false)) ∙
    c.loop-place.invariant
