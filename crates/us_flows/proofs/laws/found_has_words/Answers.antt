use Rattle.us_flows.proofs.WordLaws.{found_has_words}
use Rattle.us_flows.proofs.laws.found_has_words.Goals as goal

pub returns : goal.returns
returns c = found_has_words
