use Rattle.std.proofs.Common.{true, subst}
use Rattle.us_calendar.specs.Agendas.{is_far, IsChanged}
use Rattle.us_calendar.proofs.FarLemmas.{changed, first_noted}
use Rattle.us_calendar.proofs.far_rounds.FarRounds.note.Goals as goal

pub invariant_of-self-2 : goal.invariant_of-self-2
invariant_of-self-2 c =
    rw c.min-self-inside.ensures (first_noted c.self.inside.notes c.insert.new.self c.self.inside.first c.args.round c.args.place
    c.self.invariant (changed c.self.inside.notes c.insert.new.self c.args.round c.args.place true c.in_ok-insert.ensures.updates))

pub returns-clause-noted : goal.returns-clause-noted
returns-clause-noted c =
    subst (λ old. IsChanged (is_far old) (is_far c.insert.new.self) c.args.round c.args.place true) c.self.view_is
    (changed c.self.inside.notes c.insert.new.self c.args.round c.args.place true c.in_ok-insert.ensures.updates)
