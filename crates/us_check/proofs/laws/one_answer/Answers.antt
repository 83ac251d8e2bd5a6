use Rattle.us_map_rules.proofs.MapsLemmas.{one_reading_of_maps}
use Rattle.us_check.proofs.VerdictLaws.{one_answer}
use Rattle.us_check.proofs.laws.one_answer.Goals as goal

pub returns : goal.returns
returns c = one_answer one_reading_of_maps
