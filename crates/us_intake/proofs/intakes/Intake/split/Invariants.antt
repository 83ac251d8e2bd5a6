use Rattle.us_intake.proofs.intakes.Intake.split.Given as goal

abbrev pub ghosts-divide : goal.ghosts-divide
ghosts-divide a = record { bytes = a.quota }
