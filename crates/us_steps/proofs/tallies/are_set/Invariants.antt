use Rattle.std.proofs.Common.{◌≡◌, drop}
use Rattle.us_steps.specs.Machines as spec
use Rattle.us_steps.proofs.tallies.are_set.Given as goal

abbrev pub invariant-loop-flag : goal.invariant-loop-flag
invariant-loop-flag l = spec.are_set (drop l.flag-index l.flags) ≡ spec.are_set l.flags
