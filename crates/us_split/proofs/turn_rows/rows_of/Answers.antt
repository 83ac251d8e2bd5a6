use Rattle.std.proofs.Common.{◌≡◌, ◌<◌, ◌++◌, [], ◌∷◌, ℕ, ◌+◌, ◌≤◌, length, drop, get_or, ap, ◌∙◌, sym, subst, append_assoc, append-nil, arith}
use Rattle.std.proofs.lemmas.List.{drop_all}
use Rattle.std.proofs.lemmas.List.Elements.{All-from_recursion}
use Rattle.us_flows.specs.Clusters.{turns_of, words_of}
use Rattle.us_flows.specs.declared.turns.Turn as places
use Rattle.us_split.specs.PartialPlans.{IsTurnOf}
use Rattle.us_split.specs.TurnRows.{row_of, rows_from}
use Rattle.us_split.proofs.TurnAtLemmas.{turn_of, no_turns, few_channels, place_small, turn_small}
use Rattle.us_split.proofs.turn_rows.rows_of.Goals as goal

abbrev blank : places.Turn
blank = record { flow = 0; list = 0; cluster = 0 }

pub offset_bounds-flows-turn : goal.offset_bounds-flows-turn
offset_bounds-flows-turn c =
    let at = turn_of c.args.config.now c.turns-turns.result.now c.loop-place.place blank c.turns-turns.ensures.value c.loop-place-test.true in
    omega (arith, at.within, ap length c.flows.ensures.value)

pub bounds-flows-turn : goal.bounds-flows-turn
bounds-flows-turn c =
    let at = turn_of c.args.config.now c.turns-turns.result.now c.loop-place.place blank c.turns-turns.ensures.value c.loop-place-test.true in
    omega (arith, at.within, ap length c.flows.ensures.value)

pub overflow_cast-place : goal.overflow_cast-place
overflow_cast-place c =
    omega (arith, place_small c.args.config.now c.turns-turns.result.now c.loop-place.place c.turns-turns.ensures.lawful c.turns-turns.ensures.value c.loop-place-test.true)

pub new-requires-clause-small : goal.new-requires-clause-small
new-requires-clause-small c =
    let at = turn_of c.args.config.now c.turns-turns.result.now c.loop-place.place blank c.turns-turns.ensures.value c.loop-place-test.true in
    turn_small c.args.config.now (get_or c.turns-turns.result.now c.loop-place.place blank) c.loop-place.place
    c.turns-turns.ensures.lawful at
    (All-from_recursion (λ turn. turn.cluster < length (words_of c.args.config.now)) c.turns-turns.result.now
    c.turns-turns.ensures.numbers c.loop-place.place blank c.loop-place-test.true)

pub new-requires-clause-few : goal.new-requires-clause-few
new-requires-clause-few c =
    let u : places.Turn = get_or c.turns-turns.result.now c.loop-place.place blank in
    let at = turn_of c.args.config.now c.turns-turns.result.now c.loop-place.place blank c.turns-turns.ensures.value c.loop-place-test.true in
    let few = few_channels c.args.config.now u.flow c.index-flows-turn.result c.turns-turns.ensures.lawful at.within in
    subst (λ f. length f.channels ≤ 8) (sym (c.index-flows-turn.is ∙ ap (λ flows. get_or flows u.flow c.index-flows-turn.result) c.flows.ensures.value)) few

pub loop-place-preserved : goal.loop-place-preserved
loop-place-preserved c =
    let t = c.args.config.now in
    let place : ℕ = c.loop-place.place in
    let u : places.Turn = get_or c.turns-turns.result.now place blank in
    let at = turn_of t c.turns-turns.result.now place blank c.turns-turns.ensures.value c.loop-place-test.true in
    let flow = c.index-flows-turn.is ∙ ap (λ flows. get_or flows u.flow c.index-flows-turn.result) c.flows.ensures.value in
    let own = subst (λ f. IsTurnOf u f at.turn) (sym flow) (at.own c.index-flows-turn.result) in
    let row : c.new.result ≡ row_of t.channels place at.turn = c.new.ensures at.turn own in
    ap (λ rows. rows ++ rows_from t.channels (place + 1) (drop (place + 1) (turns_of t)))
    (c.in_ok-push.ensures.items ∙ ap (λ r. c.loop-place.rows.items ++ r ∷ []) row) ∙
    append_assoc c.loop-place.rows.items (row_of t.channels place at.turn ∷ [])
    (rows_from t.channels (place + 1) (drop (place + 1) (turns_of t))) ∙
    ap (λ rest. c.loop-place.rows.items ++ rows_from t.channels place rest) (sym at.rest) ∙
    c.loop-place.invariant

pub returns-clause-rows : goal.returns-clause-rows
returns-clause-rows c =
    let t = c.args.config.now in
    let place : ℕ = c.loop-place.place in
    let past = no_turns t c.turns-turns.result.now place c.turns-turns.ensures.value c.loop-place-test.false in
    sym (append-nil c.loop-place.rows.items) ∙
    ap (λ rest. c.loop-place.rows.items ++ rows_from t.channels place rest) (sym (drop_all place (turns_of t) past)) ∙
    c.loop-place.invariant
