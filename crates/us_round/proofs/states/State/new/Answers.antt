use Rattle.us_round.proofs.CalendarLemmas.{opening_parts, opening_value}
use Rattle.us_round.proofs.states.State.new.Goals as goal

pub of-requires : goal.of-requires
of-requires c = rw (c.in_ok-core.ensures, c.in_ok-channels.ensures) (opening_parts c.args.config)

pub returns-clause-state : goal.returns-clause-state
returns-clause-state c = rw (c.of.ensures, c.in_ok-core.ensures, c.in_ok-channels.ensures) (opening_value c.args.config)
