use Rattle.std.proofs.Common.{ap, sym, subst, ◌∙◌}
use Rattle.us_intake.specs.Seats.{Intake, Seat, IsWhole}
use Rattle.us_intake.proofs.SeatLemmas.{closed}
use Rattle.us_intake.proofs.intakes.Intake.close.Goals as goal

pub add_up-requires-clause-fits : goal.add_up-requires-clause-fits
add_up-requires-clause-fits c =
    let token = c.seat.inside.token in
    let words = ap (λ (i : Intake). i.clusters) (ap (λ (s : Seat). s.intake) c.seat.view_is ∙ c.requires.own
    ∙ sym c.self.view_is) in
    let quota = ap (λ (i : Intake). i.quota) (ap (λ (s : Seat). s.intake) c.seat.view_is ∙ c.requires.own
    ∙ sym c.self.view_is) in
    (closed c.self.inside.table.shared.key token.table_id token.id token.me _ _ _ _ _ _ _ c.seat.invariant
    c.close_with-table.ensures.values.2 (subst (λ s. IsWhole s) (sym c.seat.view_is) c.requires.whole)
    (quota ∙ sym c.self.invariant.same_quota) (words ∙ sym c.self.invariant.same_clusters) c.read_words.ensures).1

pub returns-clause-submitted : goal.returns-clause-submitted
returns-clause-submitted c =
    let token = c.seat.inside.token in
    let words = ap (λ (i : Intake). i.clusters) (ap (λ (s : Seat). s.intake) c.seat.view_is ∙ c.requires.own
    ∙ sym c.self.view_is) in
    let quota = ap (λ (i : Intake). i.quota) (ap (λ (s : Seat). s.intake) c.seat.view_is ∙ c.requires.own
    ∙ sym c.self.view_is) in
    let balance = closed c.self.inside.table.shared.key token.table_id token.id token.me _ _ _ _ _ _ _ c.seat.invariant
    c.close_with-table.ensures.values.2 (subst (λ s. IsWhole s) (sym c.seat.view_is) c.requires.whole)
    (quota ∙ sym c.self.invariant.same_quota) (words ∙ sym c.self.invariant.same_clusters) c.read_words.ensures in
    c.add_up.ensures ∙ sym balance.0 ∙ ap (λ (s : Seat). s.submitted) c.seat.view_is
