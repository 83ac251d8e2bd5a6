use Rattle.std.proofs.Common.{◌≡◌, ◌+◌, ◌^◌, ◌<◌, ◌++◌, length, drop, flat_map}
use Rattle.std.specs.Prelude.{count_by}
use Rattle.std.specs.List.{AllByRecursion}
use Rattle.us_output.specs.Files.{is_granted, is_missed, lines}
use Rattle.us_output.specs.Leftovers.{AreInside}
use Rattle.us_output.specs.Lines.{HasFields}
use Rattle.us_output.specs.Outputs.{rows_on}
use Rattle.us_output.proofs.texts.push_lines.Given as goal

-- what was added and what is left; what all lines have, where those that are left have it; counts, and room for them
abbrev pub invariant-loop-part : goal.invariant-loop-part
invariant-loop-part l =
    (l.text.items ++ flat_map (λ part. lines (rows_on l.round part)) (drop l.part-index l.channels) ≡
    l.fn.text.items ++ flat_map (λ part. lines (rows_on l.round part)) l.channels)
    × (AllByRecursion (λ part. AllByRecursion HasFields (rows_on l.round part)) (drop l.part-index l.channels) →
    AllByRecursion (λ part. AllByRecursion HasFields (rows_on l.round part)) l.channels)
    × AllByRecursion AreInside (drop l.part-index l.channels)
    × (l.tally.granted + count_by is_granted (flat_map (rows_on l.round) (drop l.part-index l.channels)) ≡
    l.fn.tally.granted + count_by is_granted (flat_map (rows_on l.round) l.channels))
    × (l.tally.missed + count_by is_missed (flat_map (rows_on l.round) (drop l.part-index l.channels)) ≡
    l.fn.tally.missed + count_by is_missed (flat_map (rows_on l.round) l.channels))
    × (l.tally.granted + length (flat_map (rows_on l.round) (drop l.part-index l.channels)) < 2 ^ 64)
    × (l.tally.missed + length (flat_map (rows_on l.round) (drop l.part-index l.channels)) < 2 ^ 64)
