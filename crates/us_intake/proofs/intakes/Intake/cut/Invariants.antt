use Rattle.std.proofs.Common.{◌≡◌}
use Rattle.us_intake.proofs.CutLemmas.{CutTo}
use Rattle.us_intake.proofs.intakes.Intake.cut.Given as goal

abbrev pub invariant-loop-at : goal.invariant-loop-at
invariant-loop-at l = (l.at-end ≡ l.self.clusters) × CutTo l.fn.seat l.seat l.at l.cuts
