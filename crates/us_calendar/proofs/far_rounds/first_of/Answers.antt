use Rattle.us_calendar.proofs.FarLemmas.{first_round}
use Rattle.us_calendar.proofs.far_rounds.first_of.Goals as goal

pub returns-in-Some : goal.returns-in-Some
returns-in-Some c =
    first_round c.args.notes.now c.in-Some.note.now.0 c.in-Some.note.now.1 c.in-Some.ensures.least c.in-Some.ensures.member
