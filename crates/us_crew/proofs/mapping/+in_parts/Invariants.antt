use Rattle.std.proofs.Common.{length}
use Rattle.us_crew.proofs.mapping.+in_parts.Given as goal

abbrev pub decreases-in_parts : goal.decreases-in_parts
decreases-in_parts g l = length l.lengths.now
