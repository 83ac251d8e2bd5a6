use Rattle.us_calendar.proofs.EntryLaws.{entries_are_lawful}
use Rattle.us_calendar.proofs.laws.entries_are_lawful.Goals as goal

pub returns : goal.returns
returns c = entries_are_lawful
