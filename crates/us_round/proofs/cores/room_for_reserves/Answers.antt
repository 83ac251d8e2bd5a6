use Rattle.std.proofs.Common.{◌≡◌, length, ap, subst, ◌∙◌, arith}
use Rattle.std.specs.List.{AllByRecursion}
use Rattle.std.proofs.lemmas.List.{take_all}
use Rattle.us_flows.specs.Tables.{FlowTable}
use Rattle.us_round.proofs.NoRateLemmas.{none_full}
use Rattle.us_round.proofs.cores.room_for_reserves.Goals as goal

pub returns : goal.returns
returns c =
    let flows = c.flows-flows.result.now in
    let all = take_all c.loop-flow.flow-index flows c.loop-flow-test.false ∙ c.flows-flows.ensures.value in
    record {
      none = λ empty. none_full c.args.config.now.flows
          (subst (λ fs. AllByRecursion (λ (flow : FlowTable). flow.min_rate ≡ 0) fs) all c.loop-flow.invariant);
      long = λ some. absurd (omega (arith, some, ap length c.new.ensures.items));
    }
