use Rattle.us_calendar.proofs.FitLaws.{grants_fit}
use Rattle.us_calendar.proofs.laws.grants_fit.Goals as goal

pub returns : goal.returns
returns c = grants_fit
