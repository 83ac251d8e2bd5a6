use Rattle.us_codec.proofs.ReadingLaws.{one_spelling}
use Rattle.us_codec.proofs.laws.one_spelling.Goals as goal

pub returns : goal.returns
returns c = one_spelling
