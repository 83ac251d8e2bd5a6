use Rattle.std.proofs.Common.{sym, ◌∙◌}
use Rattle.us_codec.specs.Faults.{elements_at}
use Rattle.us_map_rules.proofs.PieceLemmas.{none_at}
use Rattle.us_map_rules.proofs.pieces.pieces_of.Goals as goal

pub returns-in_default : goal.returns-in_default
returns-in_default c = c.new-pieces.ensures.items ∙ sym (none_at (elements_at c.args.elements.now) c.in_default.ensures.none)
