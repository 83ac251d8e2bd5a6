use Rattle.std.proofs.Common.{◌≡◌, drop}
use Rattle.us_steps.specs.Tallies as spec
use Rattle.us_steps.specs.Tallies.{IsReady}
use Rattle.us_steps.proofs.tallies.walk.Given as goal

abbrev pub invariant-loop-next : goal.invariant-loop-next
invariant-loop-next l =
    IsReady l.rows l.tally × (spec.run l.rows l.tally (drop l.next-index l.steps) ≡ spec.run l.rows l.fn.tally l.steps)
