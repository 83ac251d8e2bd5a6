use Rattle.us_check.proofs.BurstLaws.{long_grants_pass_maps}
use Rattle.us_check.proofs.laws.long_grants_pass_maps.Goals as goal

pub returns : goal.returns
returns c = long_grants_pass_maps
