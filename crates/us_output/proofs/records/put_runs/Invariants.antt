use Rattle.std.proofs.Common.{◌≡◌, ◌+◌, ◌*◌, ◌≤◌, ◌++◌, length, take}
use Rattle.us_holes.specs.Runs.{runs_of}
use Rattle.us_output.specs.Ahead.{words_of}
use Rattle.us_output.proofs.records.put_runs.Given as goal

-- what was put and what is left, and the room for that
abbrev pub invariant-loop-run : goal.invariant-loop-run
invariant-loop-run l =
    (take l.end l.out ++ words_of l.channel l.runs ≡ take l.at l.fn.out ++ words_of l.channel (runs_of l.board.cells))
    × (l.end + 4 * length l.runs ≡ l.at + 4 * length (runs_of l.board.cells))
    × (l.at + 4 * length (runs_of l.board.cells) ≤ 982)

abbrev pub decreases-loop-run : goal.decreases-loop-run
decreases-loop-run l = length l.runs
