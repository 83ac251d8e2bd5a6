use Rattle.std.proofs.Common.{◌≡◌, ◌++◌, drop, flat_map}
use Rattle.std.specs.List.{AllByRecursion}
use Rattle.us_output.specs.Lines.{text_of, HasFields}
use Rattle.us_output.proofs.texts.push_rows.Given as goal

-- what was added and what is left; and what all lines have, where those that are left have it
abbrev pub invariant-loop-row : goal.invariant-loop-row
invariant-loop-row l =
    (l.text.items ++ flat_map text_of (drop l.row-index l.rows) ≡ l.fn.text.items ++ flat_map text_of l.rows)
    × (AllByRecursion HasFields (drop l.row-index l.rows) → AllByRecursion HasFields l.rows)
