use Rattle.std.proofs.Common.{◌≡◌, map, take}
use Rattle.us_flows.specs.Tables.{FlowTable}
use Rattle.us_credit_rules.specs.Buckets.{full_account}
use Rattle.us_credit_rules.proofs.buckets.full_flows.Given as goal

abbrev pub invariant-loop-flow : goal.invariant-loop-flow
invariant-loop-flow l =
    l.accounts.items ≡ map (λ (flow : FlowTable). full_account flow.rate flow.burst) (take l.flow-index l.flows)
