use Rattle.std.proofs.Common.{◌≡◌, None, min, ap, ap₂, ◌∙◌, sym}
use Rattle.std.specs.Prelude.{sum, slice_index_or}
use Rattle.us_split.specs.Plans.{at_most}
use Rattle.us_split.specs.TurnRows.{first_in, partial_of, shares_at}
use Rattle.us_split.proofs.FullLaws.{none_shared_at}
use Rattle.us_split.proofs.PartialPlanLemmas.{none_divided}
use Rattle.us_split.proofs.RowPassLemmas.{nothing_first}
use Rattle.us_split.proofs.row_plans.plan_first.Goals as goal
use Rattle.us_split.proofs.row_plans.plan_first.Goals.{then-demand-eq0-via-then-demand-eq0, then-demand-eq0-via-else-demand-eq0+then-are_full}

pub returns-then-demand-eq0-clause-pass : goal.returns-then-demand-eq0-clause-pass
returns-then-demand-eq0-clause-pass c = λ firsts.
    let none : sum (first_in c.args.row.now c.args.outstanding (partial_of c.args.channels.now c.args.allowances.now) c.args.reserves.now) ≡ 0 =
    elim c.then-demand-eq0.branch [
      | then-demand-eq0-via-then-demand-eq0 w ↦
          ap (λ n. sum (shares_at c.args.row.now n c.args.channels.now))
          (ap₂ min
          (ap (λ place. at_most (slice_index_or c.args.allowances.now place None) c.args.outstanding) (sym c.flow.ensures) ∙
          sym c.demand_of.ensures)
          (sym c.reserve_for-reserve.ensures) ∙
          sym c.min-demand.ensures ∙ w.if-demand-eq0.true) ∙
          none_divided _
      | then-demand-eq0-via-else-demand-eq0+then-are_full w ↦
          none_shared_at c.args.row.now _ c.args.channels.now w.if-are_full.ensures
    ] in
    nothing_first c.args.row.now c.args.outstanding c.no_shares.result c.args.channels.now c.args.allowances.now
    c.args.reserves.now firsts c.no_shares.ensures none
