use Rattle.std.proofs.Common.{◌≡◌, map, take}
use Rattle.us_flows.proofs.flows.copied.Given as goal

-- so many lists are copied
abbrev pub invariant-loop-sids : goal.invariant-loop-sids
invariant-loop-sids l =
    map (λ sids. sids.items) l.copies.items ≡ map (λ sids. sids.items) (take l.sids-index l.lists)
