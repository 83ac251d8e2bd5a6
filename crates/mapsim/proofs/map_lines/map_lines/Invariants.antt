use Rattle.std.proofs.Common.{◌≡◌, ◌++◌, length, string_bytes}
use Rattle.mapsim.specs.MapLines.{lines_of}
use Rattle.mapsim.proofs.map_lines.map_lines.Given as goal

-- the lines so far and those of what is left are all lines
abbrev pub invariant-loop-rest : goal.invariant-loop-rest
invariant-loop-rest l =
    string_bytes l.lines ++ lines_of l.round l.map.head.channel l.rest ≡ lines_of l.round l.map.head.channel l.map.elements

abbrev pub decreases-loop-rest : goal.decreases-loop-rest
decreases-loop-rest l = length l.rest
