use Rattle.std.proofs.Common.{◌≡◌}
use Rattle.us_calendar_tests.proofs.tests.base.rounds_of.Given as goal

-- the calendar keeps the length of the MAPs
abbrev pub invariant-loop-round : goal.invariant-loop-round
invariant-loop-round l = l.calendar.pace.len ≡ 160
