use Rattle.std.proofs.Common.{false, IfSome, IfNone, subst, sym}
use Rattle.us_calendar.specs.Agendas.{Agenda, is_noted, IsChanged, IsFirst, IsNone, NoneBefore}
use Rattle.us_calendar.proofs.NotedLemmas.{none_near, first_now, none_now, taken_now, with_near}
use Rattle.us_calendar.proofs.agendas.Agenda.take_from.Goals as goal

pub take_from-requires : goal.take_from-requires
take_from-requires c =
    let now : Agenda = record { round = c.self.inside.round; near = c.self.inside.near; far = c.self.inside.far } in
    none_near now c.args.from
    (subst (λ a. NoneBefore (is_noted a a.round) c.args.from) (sym c.self.view_is) c.requires)

pub returns-clause-first : goal.returns-clause-first
returns-clause-first c =
    let now : Agenda = record { round = c.self.inside.round; near = c.self.inside.near; far = c.self.inside.far } in
    subst (λ a. IfSome c.take_from.result (IsFirst (is_noted a a.round))) c.self.view_is
    (first_now now c.take_from.result c.take_from.ensures.first)

pub returns-clause-taken : goal.returns-clause-taken
returns-clause-taken c =
    let now : Agenda = record { round = c.self.inside.round; near = c.self.inside.near; far = c.self.inside.far } in
    subst (λ a. IfSome c.take_from.result
    (λ p. IsChanged (is_noted a) (is_noted (with_near now c.take_from.new.self)) a.round p false)) c.self.view_is
    (taken_now now c.take_from.new.self c.take_from.result c.take_from.ensures.taken)

pub returns-clause-none : goal.returns-clause-none
returns-clause-none c =
    let now : Agenda = record { round = c.self.inside.round; near = c.self.inside.near; far = c.self.inside.far } in
    subst (λ a. IfNone c.take_from.result (IsNone (is_noted a a.round))) c.self.view_is
    (none_now now c.take_from.result c.take_from.ensures.none)
