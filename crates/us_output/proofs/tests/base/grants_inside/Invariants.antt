use Rattle.std.proofs.Common.{length, drop}
use Rattle.std.specs.List.{AllByRecursion}
use Rattle.us_output.specs.Leftovers.{StartsInside}
use Rattle.us_output.proofs.tests.base.grants_inside.Given as goal

-- all start inside if those that are left do
abbrev pub invariant-loop-grant : goal.invariant-loop-grant
invariant-loop-grant l =
    AllByRecursion (StartsInside (length l.part.board.cells)) (drop l.grant-index l.grant-items) →
    AllByRecursion (StartsInside (length l.part.board.cells)) l.grant-items
