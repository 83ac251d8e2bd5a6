use Rattle.std.proofs.Common.{map, take, ap, ◌∙◌}
use Rattle.std.proofs.lemmas.List.{take_all}
use Rattle.us_flows.specs.Tables.{FlowTable}
use Rattle.us_bucket.specs.Levels.{full}
use Rattle.us_bucket.specs.RoundBuckets.{full_at_first}
use Rattle.us_round.specs.Buckets.{levels_in}
use Rattle.us_round.proofs.BucketLemmas.{reserves_before, reserve_levels, told}
use Rattle.us_round.proofs.buckets.Buckets.full_reserves.Goals as goal

pub at_first-requires : goal.at_first-requires
at_first-requires c = rw c.loop-flow.invariant (reserves_before (take c.loop-flow.flow-index c.flows-flows.result.now))

pub returns : goal.returns
returns c =
    let ticks = c.round_ticks.result in
    let t = c.args.config.now in
    let flows = c.flows-flows.result.now in
    let kept = c.loop-flow.invariant
    ∙ ap (map (λ (flow : FlowTable). full_at_first flow.min_rate flow.burst)) (take_all c.loop-flow.flow-index flows
    c.loop-flow-test.false ∙ c.flows-flows.ensures.value) in
    c.at_first.ensures ∙ ap (told ticks 0) (ap (levels_in ticks 0) kept ∙ reserve_levels ticks t.flows)
    ∙ ap (λ n. told n 0 (map (λ (flow : FlowTable). full flow.min_rate flow.burst) t.flows)) c.round_ticks.ensures.value
