use Rattle.std.proofs.Common.{length}
use Rattle.us_codec.proofs.FileLemmas.{Read}
use Rattle.us_codec.proofs.maps_files.split.Given as goal

abbrev pub invariant-loop-rest : goal.invariant-loop-rest
invariant-loop-rest l = Read l.file l.rest l.at l.found.items

abbrev pub decreases-loop-rest : goal.decreases-loop-rest
decreases-loop-rest l = length l.rest
