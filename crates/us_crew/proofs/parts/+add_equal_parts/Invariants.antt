use Rattle.us_crew.proofs.parts.+add_equal_parts.Given as goal

abbrev pub decreases-add_equal_parts : goal.decreases-add_equal_parts
decreases-add_equal_parts l = l.parts
