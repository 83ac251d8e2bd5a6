use Rattle.std.proofs.Common.{◌≡◌, map, take}
use Rattle.us_round.specs.Parts.{activity_by}
use Rattle.us_round.proofs.activities.activities.Given as goal

abbrev pub invariant-loop-flow : goal.invariant-loop-flow
invariant-loop-flow l = l.told.items ≡ map (activity_by l.channels) (take l.flow-index l.flows)
