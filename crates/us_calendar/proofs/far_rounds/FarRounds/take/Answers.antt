use Rattle.std.proofs.Common.{◌≡◌, true, false, subst, sym}
use Rattle.us_calendar.specs.Agendas.{is_far, IsChanged, IsLate}
use Rattle.us_calendar.proofs.FarLemmas.{changed, taken_round}
use Rattle.us_calendar.proofs.far_rounds.FarRounds.take.Goals as goal

pub returns-clause-there : goal.returns-clause-there
returns-clause-there c =
    let late = subst (λ far. IsLate far c.args.round) (sym c.self.view_is) c.requires.late in
    let same = taken_round c.self.inside.notes c.self.inside.first c.args.round c.in_ok-place.field-0-0 c.in_ok-place.place
    c.self.invariant late c.if-self-round.false c.requires.early c.in_ok-place.ensures.member c.in_ok-place.ensures.least in
    subst (λ far. is_far far c.args.round c.in_ok-place.place ≡ true) c.self.view_is
    (subst (λ round. is_far c.self.inside.notes round c.in_ok-place.place ≡ true) same c.in_ok-place.ensures.member)

pub returns-clause-taken : goal.returns-clause-taken
returns-clause-taken c =
    let late = subst (λ far. IsLate far c.args.round) (sym c.self.view_is) c.requires.late in
    let same = taken_round c.self.inside.notes c.self.inside.first c.args.round c.in_ok-place.field-0-0 c.in_ok-place.place
    c.self.invariant late c.if-self-round.false c.requires.early c.in_ok-place.ensures.member c.in_ok-place.ensures.least in
    subst (λ far. IsChanged (is_far far) (is_far c.pop_first.new.self) c.args.round c.in_ok-place.place false) c.self.view_is
    (subst (λ round. IsChanged (is_far c.self.inside.notes) (is_far c.pop_first.new.self) round c.in_ok-place.place false) same
    (changed c.self.inside.notes c.pop_first.new.self c.in_ok-place.field-0-0 c.in_ok-place.place false
    c.in_ok-place.ensures.updates))
