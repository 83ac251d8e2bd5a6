use Rattle.std.proofs.Common.{◌≡◌, drop}
use Rattle.std.specs.List.{find}
use Rattle.us_calendar.specs.Calendars.{is_heard_as}
use Rattle.us_calendar.proofs.heard_entries.activity_among.Given as goal

abbrev pub invariant-loop-state : goal.invariant-loop-state
invariant-loop-state l = find (is_heard_as l.id) l.states ≡ find (is_heard_as l.id) (drop l.state-index l.states)
