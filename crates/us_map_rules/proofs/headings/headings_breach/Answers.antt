use Rattle.std.proofs.Common.{◌*◌, ◌<◌, ◌≤◌, length, arith, sym, ◌∙◌, subst}
use Rattle.std.proofs.lemmas.Bool.{eqb-true}
use Rattle.us_lawful.specs.Runs.{Run, run_in}
use Rattle.us_map_rules.specs.Headings.{IsOtherWith}
use Rattle.us_map_rules.proofs.HeadingLemmas.{Walked, answer_missing, answer_none, walked_nothing, walked_on}
use Rattle.us_map_rules.proofs.MapsLemmas.{less_left}
use Rattle.us_map_rules.proofs.headings.headings_breach.Goals as goal

pub loop-rest-init : goal.loop-rest-init
loop-rest-init c = (walked_nothing (run_in c.args.config.now c.args.trace.now) c.args.file.now, omega arith)

pub loop-rest-smaller : goal.loop-rest-smaller
loop-rest-smaller c =
    let found = c.in-Some.ensures.some in
    less_left c.loop-rest.rest.now c.in-Some.behind.now found.0 found.2

pub loop-rest-preserved : goal.loop-rest-preserved
loop-rest-preserved c =
    let run : Run = run_in c.args.config.now c.args.trace.now in
    let found = c.in-Some.ensures.some in (
      walked_on run c.args.file.now c.loop-rest.rest.now c.in-Some.behind.now c.loop-rest.number found.0 c.loop-rest.other _
          found.1 found.2
          (subst (λ h. IsOtherWith run c.loop-rest.number h c.loop-rest.other c.other_with-other.result) (sym found.3)
          c.other_with-other.ensures) c.loop-rest.invariant.0,
      omega (arith, less_left c.loop-rest.rest.now c.in-Some.behind.now found.0 found.2, c.loop-rest.invariant.1),
    )

pub returns-then-number-rounds : goal.returns-then-number-rounds
returns-then-number-rounds c =
    let run : Run = run_in c.args.config.now c.args.trace.now in
    let empty = eqb-true (length c.loop-rest.rest.now) 0 (sym c.is_empty.ensures ∙ c.loop-rest-test.false) in
    let few : c.loop-rest.number < run.rounds * length run.tables.channels =
    rw (c.channels.ensures.value, c.rounds.ensures.value) at c.if-number-rounds.true in
    rw c.place_of-then-number-rounds.ensures
    (answer_missing run c.args.file.now c.loop-rest.rest.now (omega (arith, empty)) c.loop-rest.number few
    (subst (Walked run c.args.file.now c.loop-rest.rest.now c.loop-rest.number) c.in_default-other.is c.loop-rest.invariant.0))

pub returns : goal.returns
returns c =
    let run : Run = run_in c.args.config.now c.args.trace.now in
    let empty = eqb-true (length c.loop-rest.rest.now) 0 (sym c.is_empty.ensures ∙ c.loop-rest-test.false) in
    let enough : run.rounds * length run.tables.channels ≤ c.loop-rest.number =
    rw (c.channels.ensures.value, c.rounds.ensures.value) at c.if-number-rounds.false in
    answer_none run c.args.file.now c.loop-rest.rest.now (omega (arith, empty)) c.loop-rest.number enough
    (subst (Walked run c.args.file.now c.loop-rest.rest.now c.loop-rest.number) c.in_default-other.is c.loop-rest.invariant.0)
