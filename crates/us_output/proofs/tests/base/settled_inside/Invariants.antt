use Rattle.std.proofs.Common.{length, drop}
use Rattle.std.specs.List.{AllByRecursion}
use Rattle.us_calendar.specs.Calendars.{StartsInside}
use Rattle.us_output.proofs.tests.base.settled_inside.Given as goal

-- all start inside if those that are left do
abbrev pub invariant-loop-settled : goal.invariant-loop-settled
invariant-loop-settled l =
    AllByRecursion (StartsInside (length l.part.board.cells)) (drop l.settled-index l.settled-items) →
    AllByRecursion (StartsInside (length l.part.board.cells)) l.settled-items
