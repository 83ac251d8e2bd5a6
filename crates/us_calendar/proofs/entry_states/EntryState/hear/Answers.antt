use Rattle.us_calendar.proofs.EntryStateLemmas.{state_is}
use Rattle.us_calendar.proofs.entry_states.EntryState.hear.Goals as goal

pub returns-clause-known : goal.returns-clause-known
returns-clause-known c =
    state_is c.self.inside.entry c.self.inside.next c.hears-self-inside.result c.self.inside.waiting c.self.invariant
