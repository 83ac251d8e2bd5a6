use Rattle.std.proofs.Common.{◌≡◌, ◌++◌, drop, flat_map}
use Rattle.std.specs.List.{AllByRecursion}
use Rattle.us_codec.specs.MapsFiles.{record_bytes}
use Rattle.us_output.specs.Leftovers.{IsBuiltFor}
use Rattle.us_output.specs.Outputs.{IsWithinLimits}
use Rattle.us_output.proofs.RecordLemmas.{piece_on}
use Rattle.us_output.proofs.records.push_records.Given as goal

-- what was added and what is left; and the limits of all, where those that are left keep them
abbrev pub invariant-loop-part : goal.invariant-loop-part
invariant-loop-part l =
    (l.text.items ++ flat_map (λ part. record_bytes (piece_on l.config l.round l.pendings part)) (drop l.part-index l.channels) ≡
    l.fn.text.items ++ flat_map (λ part. record_bytes (piece_on l.config l.round l.pendings part)) l.channels)
    × AllByRecursion (IsBuiltFor l.config) (drop l.part-index l.channels)
    × (AllByRecursion (IsWithinLimits l.config l.round l.pendings) (drop l.part-index l.channels) →
    AllByRecursion (IsWithinLimits l.config l.round l.pendings) l.channels)
