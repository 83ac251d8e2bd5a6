use Rattle.std.proofs.Common.{◌≡◌, take}
use Rattle.us_slots.specs.Lists.{added}
use Rattle.us_intake.proofs.tallies.add_each.Given as goal

abbrev pub invariant-loop-at : goal.invariant-loop-at
invariant-loop-at l = l.tally ≡ added l.fn.tally (take l.at l.other)
