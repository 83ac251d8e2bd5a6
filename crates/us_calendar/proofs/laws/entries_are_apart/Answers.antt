use Rattle.us_calendar.proofs.EntryLaws.{entries_are_apart}
use Rattle.us_calendar.proofs.laws.entries_are_apart.Goals as goal

pub returns : goal.returns
returns c = entries_are_apart
