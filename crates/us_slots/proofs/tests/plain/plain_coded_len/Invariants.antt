use Rattle.us_slots.proofs.tests.plain.plain_coded_len.Given as goal

abbrev pub decreases-loop-left : goal.decreases-loop-left
decreases-loop-left l = l.left
