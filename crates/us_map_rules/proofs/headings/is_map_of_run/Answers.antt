use Rattle.std.proofs.Common.{le-ltb}
use Rattle.us_lawful.specs.Runs.{Run, run_in}
use Rattle.us_map_rules.specs.Headings.{heading_read}
use Rattle.us_map_rules.proofs.HeadingLemmas.{told_there, told_nowhere}
use Rattle.us_map_rules.proofs.headings.is_map_of_run.Goals as goal

pub returns-then-round-rounds : goal.returns-then-round-rounds
returns-then-round-rounds c =
    let run : Run = run_in c.args.config.now c.args.trace.now in
    told_there run c.channels-channels.result.now c.args.number c.index-channels-number.result
    (heading_read c.args.heading.now) c.is_map_of.result c.channels-channels.ensures.value
    c.channels-channels.ensures.lawful.some_channels.0 (rw c.rounds.ensures.value at c.if-round-rounds.true)
    c.index-channels-number.is c.is_map_of.ensures

pub returns-else-round-rounds : goal.returns-else-round-rounds
returns-else-round-rounds c =
    let run : Run = run_in c.args.config.now c.args.trace.now in
    told_nowhere run c.channels-channels.result.now c.args.number (heading_read c.args.heading.now) _
    c.channels-channels.ensures.value (rw c.rounds.ensures.value at c.if-round-rounds.false)
    (le-ltb _ _ c.if-round-rounds.false)
