use Rattle.us_lawful.proofs.TextLaws.{reports_read_back}
use Rattle.us_lawful.proofs.laws.reports_read_back.Goals as goal

pub returns : goal.returns
returns c = reports_read_back
