use Rattle.std.proofs.Common.{◌∙◌}
use Rattle.us_round.proofs.RoundLemmas.{few_rounds}
use Rattle.us_round.proofs.StageLemmas.{next_parts, told_as}
use Rattle.us_round.proofs.parts.Parts.close.Goals as goal

pub close-requires-clause-round : goal.close-requires-clause-round
close-requires-clause-round c = few_rounds c.args.self.core c.requires.built.lawful c.requires.built.time

pub of-requires : goal.of-requires
of-requires c =
    next_parts c.args.self.core c.close.new.self c.args.self.channels.items c.requires.built
    (rw c.deref.ensures.value at c.close.ensures.value) (rw c.deref.ensures.value at c.close.ensures.known)

pub returns : goal.returns
returns c =
    c.of.ensures
    ∙ told_as c.args.self.core c.close.new.self c.args.self.channels.items c.list_pendings.new.pendings.items
    (rw c.deref.ensures.value at c.close.ensures.value) c.in_ok-list_pendings.ensures
