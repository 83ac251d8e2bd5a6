use Rattle.std.proofs.Common.{get_or, arith}
use Rattle.std.proofs.lemmas.Option.{slice_get-get_or}
use Rattle.us_calendar.proofs.HearingLemmas.{hearing_step, hearing_ends}
use Rattle.us_calendar.proofs.heard_entries.hear_all.Goals as goal

pub loop-place-preserved : goal.loop-place-preserved
loop-place-preserved c =
    let l = c.loop-place in
    let inside = c.loop-place-test.true in
    hearing_step c.args.cut.now c.args.states.now l.states l.place c.args.places.to
    (get_or l.states l.place c.index-states-place.result) c.hear.new.self l.invariant
    (slice_get-get_or l.states l.place c.index-states-place.result (omega (arith, inside, c.requires.heard.inside, l.invariant.many)))
    c.hear.ensures.value c.hear.ensures.known inside

pub returns-clause-states : goal.returns-clause-states
returns-clause-states c =
    let l = c.loop-place in
    hearing_ends c.args.cut.now c.args.states.now l.states l.place c.args.places.to l.invariant c.loop-place-test.false
