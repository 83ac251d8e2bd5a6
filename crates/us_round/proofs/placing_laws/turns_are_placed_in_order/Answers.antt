use Rattle.us_round.proofs.TurnLemmas.{by_turns_is_by_channels, rounds_are_by_turns}
use Rattle.us_round.proofs.placing_laws.turns_are_placed_in_order.Goals as goal

pub returns-clause-by_turns : goal.returns-clause-by_turns
returns-clause-by_turns c = by_turns_is_by_channels

pub returns-clause-rounds : goal.returns-clause-rounds
returns-clause-rounds c = rounds_are_by_turns
