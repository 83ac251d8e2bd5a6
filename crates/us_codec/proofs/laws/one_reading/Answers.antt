use Rattle.us_codec.proofs.ReadingLaws.{one_reading}
use Rattle.us_codec.proofs.laws.one_reading.Goals as goal

pub returns : goal.returns
returns c = one_reading
