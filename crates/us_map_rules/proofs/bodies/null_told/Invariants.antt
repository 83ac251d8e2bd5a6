use Rattle.std.proofs.Common.{◌≡◌, length}
use Rattle.us_codec.specs.Faults.{elements_at}
use Rattle.us_map_rules.proofs.BodyLemmas.{null_from}
use Rattle.us_map_rules.proofs.bodies.null_told.Given as goal

-- what is left tells what all does
abbrev pub invariant-loop-first : goal.invariant-loop-first
invariant-loop-first l = null_from l.least (elements_at l.rest) ≡ null_from 0 (elements_at l.elements)

abbrev pub decreases-loop-first : goal.decreases-loop-first
decreases-loop-first l = length l.rest
