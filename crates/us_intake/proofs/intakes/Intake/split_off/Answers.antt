use Rattle.std.proofs.Common.{ap, sym, ◌∙◌}
use Rattle.us_intake.specs.Seats.{Intake}
use Rattle.us_intake.proofs.TableLemmas.{split_step}
use Rattle.us_intake.proofs.intakes.Intake.split_off.Goals as goal

pub split_seat-requires : goal.split_seat-requires
split_seat-requires g c =
    let i = c.self.inside in (
      c.requires.own ∙ sym (ap (λ (x : Intake). x.id) c.self.view_is),
      c.self.invariant.known.some_clusters,
      split_step i.table.shared.key c.args.token.now.id g.B.Bytes.bytes c.args.token.now.me.0 c.requires.some
          c.requires.less c.requires.within,
    )
