use Rattle.std.proofs.Common.{◌≡◌, ℕ, ◌<◌, ◌+◌, ◌*◌, ◌≤◌, take, map, get_or}
use Rattle.std.specs.Prelude.{sum}
use Rattle.us_split.specs.TurnRows.{weight_at}
use Rattle.us_split.proofs.by_places.weigh_at.Given as goal

-- the weights so far, and all of them together
abbrev pub invariant-loop-i : goal.invariant-loop-i
invariant-loop-i l =
    (take l.i l.weights ≡ map (λ seat. weight_at l.header l.channels seat.place) (take l.i l.seats)) ×
    ((k : ℕ) → k < l.i → get_or l.weights k 0 + l.header ≤ 98304) ×
    (l.total ≡ sum (take l.i l.weights)) ×
    (l.total ≤ 98304 * l.i)
