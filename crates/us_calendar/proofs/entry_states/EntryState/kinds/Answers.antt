use Rattle.std.proofs.Common.{◌∙◌, ap, sym, length, is_some}
use Rattle.us_calendar.specs.Occurrences.{ideal}
use Rattle.us_calendar.specs.Settling.{kind_at, speaks_in}
use Rattle.us_calendar.proofs.EntryStateLemmas.{kinds_are, next_ideal}
use Rattle.us_calendar.proofs.entry_states.EntryState.kinds.Goals as goal

pub returns-clause-speaks : goal.returns-clause-speaks
returns-clause-speaks c =
    ap (λ kept. kind_at c.self.inside.next.ideal kept c.self.inside.active) c.unwrap_or.ensures ∙
    kinds_are c.self.inside.entry c.self.inside.next c.self.inside.active c.self.inside.waiting c.self.invariant
    (ap (λ s. is_some s.entry.silence) c.self.view_is ∙ c.requires) ∙
    ap speaks_in c.self.view_is

pub returns-clause-at : goal.returns-clause-at
returns-clause-at c =
    sym (next_ideal c.self.inside.entry c.self.inside.next c.self.invariant.timed) ∙
    ap (λ s. ideal s.entry (length s.settled)) c.self.view_is
