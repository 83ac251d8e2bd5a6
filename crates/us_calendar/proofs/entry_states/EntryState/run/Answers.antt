use Rattle.std.proofs.Common.{arith}
use Rattle.us_calendar.proofs.EntryStateLemmas.{round_early}
use Rattle.us_calendar.proofs.entry_states.EntryState.run.Goals as goal

pub overflow_add-span : goal.overflow_add-span
overflow_add-span c =
    let early = round_early c.args.span.now.pace c.args.span.now.round c.args.span.now.known c.args.span.now.time in
    omega (arith, early)
