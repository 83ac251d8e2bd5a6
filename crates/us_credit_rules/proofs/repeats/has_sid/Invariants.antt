use Rattle.std.proofs.Common.{◌≡◌, ◌==◌, zip}
use Rattle.std.specs.Prelude.{◌&&◌}
use Rattle.std.specs.List.{list_any}
use Rattle.us_flows.specs.Clusters.{has_sid}
use Rattle.us_credit_rules.proofs.repeats.has_sid.Given as goal

-- what is left is the same test
abbrev pub invariant-loop-id : goal.invariant-loop-id
invariant-loop-id l =
    list_any (λ pair. (pair.0 == l.channel) && (pair.1 == l.sid)) (zip l.id-iterator.a.rest.now l.id-iterator.b.rest.now)
    ≡ has_sid l.channel l.sid l.seat.cluster
