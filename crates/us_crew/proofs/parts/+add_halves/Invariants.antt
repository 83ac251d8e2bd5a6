use Rattle.us_crew.proofs.parts.+add_halves.Given as goal

abbrev pub decreases-add_halves : goal.decreases-add_halves
decreases-add_halves l = l.workers
