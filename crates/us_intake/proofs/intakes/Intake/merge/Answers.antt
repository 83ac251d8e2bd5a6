use Rattle.std.proofs.Common.{ap, sym, ◌∙◌, arith}
use Rattle.us_intake.specs.Seats.{Intake}
use Rattle.us_intake.proofs.TableLemmas.{join_step, look_step}
use Rattle.us_intake.proofs.intakes.Intake.merge.Goals as goal

pub join_seat-requires : goal.join_seat-requires
join_seat-requires c =
    let i = c.self.inside in
    let id = sym (ap (λ (x : Intake). x.id) c.self.view_is) in (
      c.requires.own.0 ∙ id,
      c.requires.own.1 ∙ id,
      c.requires.bare.1,
      c.self.invariant.known.some_clusters,
      join_step i.table.shared.key c.args.token.now.id c.args.other.id c.args.token.now.me.0 c.args.other.me.0
          c.requires.some.0 c.requires.some.1,
    )

pub load-requires : goal.load-requires
load-requires c =
    let i = c.self.inside in
    let me = c.join_seat.ensures.2 in (
      c.join_seat.ensures.0 ∙ c.requires.own.0 ∙ sym (ap (λ (x : Intake). x.id) c.self.view_is),
      c.self.invariant.known.some_clusters,
      look_step i.table.shared.key i.table.shared.table_id.slots c.join_seat.new.seat.id 0 c.join_seat.new.seat.me
          (ap (λ m. m.1) me ∙ c.requires.bare.0) (ap (λ m. m.0.looks) me)
          (omega (arith, ap (λ m. m.0.quota) me, c.requires.some.0)),
    )
