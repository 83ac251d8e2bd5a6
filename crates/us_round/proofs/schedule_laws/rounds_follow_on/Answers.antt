use Rattle.us_round.proofs.ScheduleLaws.{schedule_is_of_begun_rounds, rounds_are_numbered, tables_stay}
use Rattle.us_round.proofs.schedule_laws.rounds_follow_on.Goals as goal

pub returns-clause-begun : goal.returns-clause-begun
returns-clause-begun c = schedule_is_of_begun_rounds

pub returns-clause-numbers : goal.returns-clause-numbers
returns-clause-numbers c = rounds_are_numbered

pub returns-clause-tables : goal.returns-clause-tables
returns-clause-tables c = tables_stay
