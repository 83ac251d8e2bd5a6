use Rattle.std.proofs.Common.{◌≡◌, ◌≤◌, ◌++◌, length, map, drop, vec_len, vec_capacity}
use Rattle.std.specs.List.{AllByRecursion}
use Rattle.us_output.specs.Outputs.{built_map, IsWithinLimits}
use Rattle.us_output.specs.Leftovers.{IsBuiltFor}
use Rattle.us_output.proofs.mapping.maps_of.Given as goal

-- what is left leads to the same
abbrev pub invariant-loop-part : goal.invariant-loop-part
invariant-loop-part l =
    (l.maps.items ++ map (built_map l.config l.round l.pendings) (drop l.part-index l.built) ≡
    map (built_map l.config l.round l.pendings) l.built)
    × AllByRecursion (IsBuiltFor l.config) (drop l.part-index l.built)
    × (AllByRecursion (IsWithinLimits l.config l.round l.pendings) (drop l.part-index l.built) →
    AllByRecursion (IsWithinLimits l.config l.round l.pendings) l.built) ×
    (vec_len l.maps ≡ l.part-index) × (length l.built ≤ vec_capacity l.maps)
