use Rattle.std.proofs.Common.{◌++◌, filter_map, ap, ◌∙◌}
use Rattle.us_activity.specs.Kept.{mark_of, round_marks}
use Rattle.us_activity.proofs.MarkLemmas.{round_more}
use Rattle.us_activity.proofs.marks.marks_in.Goals as goal

pub loop-round-preserved : goal.loop-round-preserved
loop-round-preserved c =
    let silent = c.args.silent.now in
    let round = c.loop-round.round in
    c.in_ok-push_round.ensures
    ∙ ap (λ asks. c.loop-round.marks.items ++ filter_map (mark_of silent round) asks) c.asks.ensures.value
    ∙ round_more (round_marks silent c.args.trace.now) c.loop-round.marks.items round c.loop-round.invariant
