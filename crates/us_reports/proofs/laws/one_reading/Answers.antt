use Rattle.us_reports.proofs.ReportLemmas.{one_reading}
use Rattle.us_reports.proofs.laws.one_reading.Goals as goal

pub returns : goal.returns
returns c = one_reading
