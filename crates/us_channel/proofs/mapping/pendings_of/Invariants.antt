use Rattle.std.proofs.Common.{◌≡◌, ◌<◌, ◌≤◌, ◌^◌, ◌++◌, length, map, drop, vec_len, vec_capacity}
use Rattle.std.specs.List.{AllByRecursion}
use Rattle.us_channel.specs.Maps.{pending_element}
use Rattle.us_channel.proofs.mapping.pendings_of.Given as goal

abbrev pub invariant-loop-sid : goal.invariant-loop-sid
invariant-loop-sid l =
    (l.pendings.items ++ map (pending_element l.len) (drop l.sid-index l.sids) ≡ map (pending_element l.len) l.sids)
    × AllByRecursion (λ sid. sid < 2 ^ 14) (drop l.sid-index l.sids)
    × (vec_len l.pendings ≡ l.sid-index) × (length l.sids ≤ vec_capacity l.pendings)
