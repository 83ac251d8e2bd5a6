use Rattle.std.proofs.Common.{ap, map, rules}
use Rattle.us_live.proofs.LiveLemmas.{inside-opening}
use Rattle.us_live.proofs.LogLemmas.{feeds-first}
use Rattle.us_live.proofs.lives.Live.open.Goals as goal

pub invariant_of-live : goal.invariant_of-live
invariant_of-live c =
    inside-opening (λ cut. cut.items) c.clusters-clusters.result c.args.rounds c.new-2.result.items c.args.config
    c.in-Ok-new.state c.new-2.ensures.items c.in-Ok-new.ensures.state c.clusters-clusters.ensures.value (search rules)

pub returns-clause-feeds : goal.returns-clause-feeds
returns-clause-feeds c =
    feeds-first _ c.in-Ok.opened.0 c.in-Ok.opened.1 (ap (λ entries. map (λ cut. cut.items) entries) c.new-2.ensures.items)
    (search rules) c.in-Ok.ensures.seat
