use Rattle.std.proofs.Common.{◌∙◌, ◌+◌, List, sym, subst, take, arith}
use Rattle.std.proofs.lemmas.Bool.{true≢false}
use Rattle.us_output.specs.declared.rows.Row.{Row}
use Rattle.us_output.proofs.PartLemmas.{all_at}
use Rattle.us_check.specs.Judges.{AreTold, IsStanding, lines_there}
use Rattle.us_check.proofs.ReadingLemmas.{line_none, line_some, next_there, there_all, there_more}
use Rattle.us_check.proofs.judging.take_sorted.Goals as goal

pub loop-standing-init : goal.loop-standing-init
loop-standing-init c = record {
  told = λ ms told. told;
  next = λ _. omega (arith, c.requires.first);
}

pub returns : goal.returns
returns c = λ ms told.
    subst (λ (lines : List Row). AreTold c.args.config.now c.args.trace.now c.args.maps.now ms lines c.loop-standing.judge)
    (there_all c.args.report.now c.args.standings.now c.loop-standing.standing-index c.loop-standing-test.false)
    (c.loop-standing.invariant.told ms told)

pub unreachable-requires : goal.unreachable-requires
unreachable-requires c =
    let stands = all_at (IsStanding c.args.config.now c.args.trace.now.rounds c.args.report.now) c.args.standings.now
    c.loop-standing.standing-index (record { map = 0; at = 0 }) c.requires.stand.each c.loop-standing-test.true in
    cc (rw (line_none c.args.report.now _ c.in_default.ensures) at stands)

pub take-requires : goal.take-requires
take-requires c = (c.requires.told.0, _, c.loop-standing.invariant.told c.requires.told.0 c.requires.told.1)

pub unreachable-requires-then-not-branch : goal.unreachable-requires-then-not-branch
unreachable-requires-then-not-branch c =
    let next = next_there c.args.config.now c.args.trace.now.rounds c.loop-standing.judge.regions.number c.args.report.now
    c.args.standings.now c.loop-standing.standing-index (record { map = 0; at = 0 }) c.in-Some.row c.requires.stand.each
    c.loop-standing-test.true (line_some c.args.report.now _ c.in-Some.row _ c.in-Some.ensures)
    (c.loop-standing.invariant.next c.loop-standing-test.true) in
    true≢false (sym (c.in_ok-take.ensures.next next.0).0 ∙ c.if-not-branch.true)

pub loop-standing-preserved : goal.loop-standing-preserved
loop-standing-preserved c =
    let i = c.loop-standing.standing-index in
    let there = line_some c.args.report.now _ c.in-Some.row _ c.in-Some.ensures in
    let next = next_there c.args.config.now c.args.trace.now.rounds c.loop-standing.judge.regions.number c.args.report.now
    c.args.standings.now i (record { map = 0; at = 0 }) c.in-Some.row c.requires.stand.each c.loop-standing-test.true there
    (c.loop-standing.invariant.next c.loop-standing-test.true) in
    record {
      told = λ ms told.
          subst (λ (lines : List Row). AreTold c.args.config.now c.args.trace.now c.args.maps.now ms lines c.take.new.self)
          (sym (there_more c.args.report.now c.args.standings.now i (record { map = 0; at = 0 }) c.in-Some.row
          c.loop-standing-test.true there))
          (c.in_ok-take.ensures.told c.if-not-branch.false ms (lines_there c.args.report.now (take i c.args.standings.now))
          (c.loop-standing.invariant.told ms told));
      next = λ inside.
          omega (
            arith,
            (c.in_ok-take.ensures.next next.0).1,
            next.1,
            c.requires.stand.rising i (i + 1) (record { map = 0; at = 0 }) (omega arith) inside,
          );
    }
