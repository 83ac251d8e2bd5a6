use Rattle.std.proofs.Common.{◌≡◌, ◌+◌, ◌*◌, ◌<◌, ◌≤◌, ◌^◌, ◌++◌, length, take, drop, flat_map}
use Rattle.std.specs.List.{AllByRecursion}
use Rattle.std.specs.Int.{to_be_bytes, w32}
use Rattle.us_codec.specs.Elements.{word_of}
use Rattle.us_channel.specs.Maps.{pending_element}
use Rattle.us_output.proofs.records.put_pendings.Given as goal

-- what was put and what is left, and the room for that
abbrev pub invariant-loop-sid : goal.invariant-loop-sid
invariant-loop-sid l =
    (take l.end l.out ++ flat_map (λ sid. to_be_bytes w32 (word_of (pending_element l.len sid))) (drop l.sid-index l.sids) ≡
    take l.at l.fn.out ++ flat_map (λ sid. to_be_bytes w32 (word_of (pending_element l.len sid))) l.sids)
    × (l.end ≡ l.at + 4 * l.sid-index)
    × (l.at + 4 * length l.sids ≤ 982)
    × AllByRecursion (λ sid. sid < 2 ^ 14) (drop l.sid-index l.sids)
