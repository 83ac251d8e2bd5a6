use Rattle.us_flows.proofs.WordLaws.{activity_has_words}
use Rattle.us_flows.proofs.laws.activity_has_words.Goals as goal

pub returns : goal.returns
returns c = activity_has_words
