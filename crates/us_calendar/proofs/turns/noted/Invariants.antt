use Rattle.std.proofs.Common.{◌≡◌, ◌≤◌, ◌++◌, length, map, drop}
use Rattle.std.specs.List.{AllByRecursion}
use Rattle.us_calendar.specs.Settling.{opening_state}
use Rattle.us_calendar.specs.Kept.{IsEntryState}
use Rattle.us_calendar.specs.Agendas.{IsAgenda}
use Rattle.us_calendar.proofs.turns.noted.Given as goal

abbrev pub invariant-loop-entry : goal.invariant-loop-entry
invariant-loop-entry l = record {
  states : l.states.items ++ map opening_state (drop l.entry-index l.entries) ≡ map opening_state l.entries;
  count : length l.states.items ≡ l.entry-index;
  room : length l.entries ≤ length l.agenda.near;
  known : AllByRecursion IsEntryState l.states.items;
  agenda : IsAgenda l.span.pace 0 0 l.states.items l.agenda;
}
