use Rattle.std.proofs.Common.{◌-◌, ◌∙◌}
use Rattle.us_calendar.proofs.EntryStateLemmas.{round_long, due_round_is}
use Rattle.us_calendar.proofs.entry_states.EntryState.due_round.Goals as goal

pub returns : goal.returns
returns c =
    c.max.ensures ∙
    due_round_is c.args.span.now.pace c.args.self.now c.self.inside.entry c.self.inside.next c.self.inside.active
    c.self.inside.waiting c.args.from (c.args.span.now.end - c.args.span.now.begin) c.self.invariant c.self.view_is
    (round_long c.args.span.now.pace c.args.span.now.round c.args.span.now.begin c.args.span.now.end
    c.args.span.now.begins c.args.span.now.ends)
