-- Two texts that are lawful for a run: a maps file and a report.
use Rattle.std.specs.Prelude.{◌≡◌, ℕ, List, map}
use Rattle.std.specs.List.{AllByRecursion}
use Rattle.us_codec.specs.Bodies.{spelling}
use Rattle.us_codec.specs.MapsFiles.{Piece, maps_file}
use Rattle.us_output.specs.Files.{lines}
use Rattle.us_lawful.specs.Runs.{Run, RoundMap, Judged}
use Rattle.us_reports.specs.Rows.{IsRow}
use Rattle.us_lawful.specs.Lawful.{IsLawful}

-- the record of a MAP: its round, and its body as bytes
abbrev pub record_of : RoundMap → Piece
record_of m = record { round = m.round; body = spelling m.body }

-- they spell MAPs and lines that are lawful
pub record AreLawful (run : Run) (maps report : List ℕ) : Type 0 where
  pub judged : Judged
  pub maps_spelled : maps ≡ maps_file (map record_of judged.maps)
  pub rows : AllByRecursion IsRow judged.lines
  pub report_spelled : report ≡ lines judged.lines
  pub lawful : IsLawful run judged
