use Rattle.std.proofs.Common.{◌+◌, ◌<◌, ◌++◌, length, drop, ap, ◌∙◌, arith}
use Rattle.std.proofs.lemmas.List.{length-map}
use Rattle.us_flows.specs.Ranks.{cluster_turns}
use Rattle.us_flows.proofs.TurnLemmas.{cluster_turns-more}
use Rattle.us_flows.proofs.turns.ordering.push_turns.Goals as goal

pub loop-list-preserved : goal.loop-list-preserved
loop-list-preserved c =
    let kept = length-map c.clusters-list-end.result.now (λ sids. sids.items) in
    let within : c.loop-list.list < length c.args.flow.now.clusters =
    omega (arith, kept, ap length c.clusters-list-end.ensures.value, c.loop-list-test.true) in
    let next = ap (λ turns. turns ++ cluster_turns c.args.place (c.args.number + (c.loop-list.list + 1))
    (c.loop-list.list + 1) (drop (c.loop-list.list + 1) c.args.flow.now.clusters)) c.in_ok-push.ensures.items in
    let more = cluster_turns-more c.loop-list.turns.items c.args.place c.args.number c.loop-list.list
    c.args.flow.now.clusters within in
    next ∙ more ∙ c.loop-list.invariant
