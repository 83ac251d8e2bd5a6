use Rattle.std.proofs.Common.{ap, sym, ◌∙◌, arith}
use Rattle.us_intake.specs.Seats.{Intake}
use Rattle.us_intake.proofs.TableLemmas.{swap_step}
use Rattle.us_intake.proofs.intakes.Intake.swap.Goals as goal

pub swap-requires : goal.swap-requires
swap-requires c =
    let i = c.self.inside in
    let clusters = ap (λ (x : Intake). x.clusters) c.self.view_is in (
      c.requires.own ∙ sym (ap (λ (x : Intake). x.id) c.self.view_is),
      omega (arith, c.requires.there, clusters),
      swap_step i.table.shared.key i.table.shared.table_id.slots c.args.token.now.id c.args.at c.args.token.now.me
          c.requires.bare (omega (arith, c.requires.there, clusters, c.self.invariant.same_clusters))
          (omega (arith, c.requires.there, c.requires.row)) c.requires.takes,
    )
