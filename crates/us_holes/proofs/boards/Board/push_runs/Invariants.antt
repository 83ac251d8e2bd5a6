use Rattle.std.proofs.Common.{◌≡◌, ◌+◌, ◌*◌, ◌≤◌, ◌++◌, length, max, vec_len, vec_capacity}
use Rattle.us_holes.specs.Runs as runs
use Rattle.us_holes.proofs.boards.Board.push_runs.Given as goal

-- the runs so far and those that are left are all, and there is room for them
abbrev pub invariant-loop-run : goal.invariant-loop-run
invariant-loop-run l =
    (l.found.items ++ l.walk ≡ l.fn.found.items ++ runs.runs_of l.self.cells)
    × (vec_capacity l.found ≡ max (vec_capacity l.fn.found) (vec_len l.fn.found + (2 * l.self.standing + 1)))
    × (length l.found.items + length l.walk ≤ vec_capacity l.found)

abbrev pub decreases-loop-run : goal.decreases-loop-run
decreases-loop-run l = length l.walk
