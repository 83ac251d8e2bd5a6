use Rattle.std.proofs.Common.{ap, sym, ◌∙◌}
use Rattle.us_intake.specs.Seats.{Intake, Seat}
use Rattle.us_intake.proofs.SeatLemmas.{inside_joined}
use Rattle.us_intake.proofs.intakes.Intake.join.Goals as goal

pub invariant_of-one : goal.invariant_of-one
invariant_of-one c =
    let one = c.one.inside in
    let other = c.other.inside in
    let words = ap (λ (i : Intake). i.clusters) (ap (λ (s : Seat). s.intake) c.other.view_is ∙ c.requires.own.1
    ∙ sym c.requires.own.0 ∙ sym (ap (λ (s : Seat). s.intake) c.one.view_is)) in
    inside_joined c.merge.new.token.table_id one.token.table_id other.token.table_id c.merge.new.token.me
    one.token.me other.token.me
    one.quota one.spent other.quota other.spent one.takes other.takes one.taken.items other.taken.items
    c.join_taken.new.taken.items
    c.one.invariant c.other.invariant c.merge.ensures.own words c.merge.ensures.part c.merge.ensures.known
    c.join_taken.ensures.both c.join_taken.ensures.one
