use Rattle.std.proofs.Common.{◌≡◌, length}
use Rattle.std.specs.List.{list_all}
use Rattle.us_codec.specs.Faults.{elements_at, is_pending}
use Rattle.us_map_rules.proofs.bodies.are_pending.Given as goal

-- what is left may stand there where all may
abbrev pub invariant-loop-element : goal.invariant-loop-element
invariant-loop-element l = list_all (is_pending l.len) (elements_at l.rest) ≡ list_all (is_pending l.len) (elements_at l.elements)

abbrev pub decreases-loop-element : goal.decreases-loop-element
decreases-loop-element l = length l.rest
