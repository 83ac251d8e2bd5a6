use Rattle.std.proofs.Common.{◌-◌, set, option_map, None, ap, ap₂, ◌∙◌, sym}
use Rattle.std.specs.Prelude.{slice_index_or}
use Rattle.us_split.specs.Plans.{at_most}
use Rattle.us_split.specs.TurnRows.{put_from}
use Rattle.us_split.proofs.RowPlanLemmas.{nothing_asked, shares_planned}
use Rattle.us_split.proofs.row_plans.plan_row.Goals as goal

pub returns-then-demand-eq0-clause-plan : goal.returns-then-demand-eq0-clause-plan
returns-then-demand-eq0-clause-plan c =
    nothing_asked c.args.row.now c.args.outstanding c.args.channels.now c.args.allowances.now
    (ap (λ place. at_most (slice_index_or c.args.allowances.now place None) c.args.outstanding) (sym c.flow.ensures) ∙
    sym c.demand_of-demand.ensures ∙ c.if-demand-eq0.true)

pub returns-clause-plan : goal.returns-clause-plan
returns-clause-plan c =
    shares_planned c.args.row.now c.args.outstanding c.demand_of-demand.result c.total.result c.share_out.new.shares
    c.args.channels.now c.put_all.new.channels c.args.allowances.now c.spend.new.allowances
    (c.demand_of-demand.ensures ∙
    ap (λ place. at_most (slice_index_or c.args.allowances.now place None) c.args.outstanding) c.flow.ensures)
    c.share_out.ensures.value
    (c.in_ok-put_all.ensures.shares ∙
    ap₂ (λ asker seats. put_from asker 0 seats c.bytes.result.now c.args.channels.now) c.asker.ensures c.seats.ensures.value ∙
    ap (λ shares. put_from c.args.row.now.asker 0 c.args.row.now.seats shares c.args.channels.now) c.bytes.ensures.value)
    c.total.ensures
    (c.spend.ensures ∙
    ap (λ place. set c.args.allowances.now place
    (option_map (λ most. most - c.total.result) (slice_index_or c.args.allowances.now place None))) c.flow-2.ensures)
