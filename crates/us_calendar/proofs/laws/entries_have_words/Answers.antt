use Rattle.us_calendar.proofs.EntryLaws.{entries_have_words}
use Rattle.us_calendar.proofs.laws.entries_have_words.Goals as goal

pub returns : goal.returns
returns c = entries_have_words
