use Rattle.std.proofs.Common.{length, ap, sym, subst, ◌∙◌}
use Rattle.us_round.proofs.CoreLemmas.{IsKept, core_in, opening_kept, opening_value}
use Rattle.us_round.proofs.cores.Core.new.Goals as goal

pub invariant_of-result : goal.invariant_of-result
invariant_of-result c =
    subst IsKept (sym c.in_ok-kept.ensures.ok)
    (rw c.in_ok-config.ensures.ok (opening_kept c.args.config c.in_ok-askers.askers c.in_ok-buckets.buckets c.in_ok-reserves.reserves c.in_ok-planner.planner
    c.in_ok-allowances.allowances.items c.in_ok-left.left.items c.flows-flows.ensures.lawful
    (c.in_ok-allowances.ensures ∙ ap length c.flows-flows.ensures.value) c.in_ok-left.ensures
    c.in_ok-askers.ensures c.in_ok-buckets.ensures c.in_ok-reserves.ensures c.in_ok-planner.ensures))

pub returns : goal.returns
returns c =
    ap core_in c.in_ok-kept.ensures.ok
    ∙ rw c.in_ok-config.ensures.ok (opening_value c.args.config c.in_ok-askers.askers c.in_ok-buckets.buckets c.in_ok-reserves.reserves
    c.in_ok-planner.planner c.in_ok-askers.ensures c.in_ok-buckets.ensures c.in_ok-reserves.ensures c.in_ok-planner.ensures)
