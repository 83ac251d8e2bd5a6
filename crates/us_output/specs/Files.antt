-- The files (ours): what a round writes to the maps file, and what to the report.
use Rattle.std.specs.Prelude.{ℕ, List, map, Bool, true, false}
use Rattle.std.specs.List.{flat_map}
use Rattle.us_codec.specs.Bodies.{spelling}
use Rattle.us_codec.specs.MapsFiles.{maps_file}
use Rattle.us_output.specs.Outputs.{RoundOut}
use Rattle.us_output.specs.Lines.{text_of}
use Rattle.us_output.specs.declared.rows.Row.{Row}
use Rattle.us_output.specs.declared.rows.Row.TheVariants as rows

-- the records of a round, one for each of its MAPs
unfoldable pub records : RoundOut → List ℕ
records out = maps_file (map (λ body. record { round = out.round; body = spelling body }) out.maps)

-- rows as text
unfoldable pub lines : List Row → List ℕ
lines all = flat_map text_of all

-- the lines of a round
abbrev pub round_lines : RoundOut → List ℕ
round_lines out = lines out.rows

-- whether a line is of a grant, and whether of a missed occurrence
abbrev pub is_granted : Row → Bool
is_granted (rows.Granted grant) = true
is_granted _ = false

abbrev pub is_missed : Row → Bool
is_missed (rows.Missed missed) = true
is_missed _ = false
