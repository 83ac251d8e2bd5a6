-- P1, of MAPs: which bytes are the maps file of MAPs, and which record is the first that is none.
use Rattle.std.specs.Prelude.{◌≡◌, ◌≢◌, ℕ, ◌<◌, List, ◌++◌, length, map, codes, Option, Result, Ok, Err}
use Rattle.std.specs.Fmt.{decimal}
use Rattle.std.specs.List.{AllByRecursion}
use Rattle.us_codec.specs.MapsFiles.{Piece, IsPiece, record_bytes, maps_file}
use Rattle.us_output.specs.declared.rows.Row.{Row}
use Rattle.us_reports.specs.declared.place.Place.{Place}
use Rattle.us_lawful.specs.Runs.{Run, RoundMap}
use Rattle.us_lawful.specs.Headings.{HeadingsHold}
use Rattle.us_lawful.specs.Lawful.{IsRoundMap}
use Rattle.us_lawful.specs.Texts.{record_of}
use Rattle.us_reports.specs.Breaches.{IsFirstBreach}
use Rattle.us_map_rules.specs.declared.maps_faults.MapsFault.{MapsFault}

-- the bytes are the records of these MAPs
pub record IsMapsOf (bytes : List ℕ) (maps : List RoundMap) : Type 0 where
  pub each : AllByRecursion IsRoundMap maps
  pub spelled : bytes ≡ maps_file (map record_of maps)

-- no record of a MAP stands in front
abbrev pub BeginsNoRecord : List ℕ → Type 0
BeginsNoRecord bytes = (m : RoundMap) (more : List ℕ) → IsRoundMap m → bytes ≢ record_bytes (record_of m) ++ more

-- the record of this number, counted from 0, is the first that is of no MAP: the records before it are, and bytes stand
-- behind them that begin with none
pub record IsFirstBadRecord (bytes : List ℕ) (number : ℕ) : Type 0 where
  pub before : List RoundMap
  pub rest : List ℕ
  pub each : AllByRecursion IsRoundMap before
  pub spelled : bytes ≡ maps_file (map record_of before) ++ rest
  pub place : length before ≡ number
  pub some : 0 < length rest
  pub bad : BeginsNoRecord rest

-- what is answered of the bytes of a maps file: the first of its MAPs that isn't that of the run, or else the first record that
-- is of no MAP
abbrev pub Answers : Run → List ℕ → Result (Option Place) MapsFault → Type 0
Answers run bytes (Ok first) =
    (maps : List RoundMap) × IsMapsOf bytes maps
    × ((lines : List Row) → IsFirstBreach run.tables.channels (HeadingsHold run (record { maps = maps; lines = lines })) first)
Answers run bytes (Err fault) = IsFirstBadRecord bytes fault.record

-- what bytes are read as: MAPs, or the number of a record
abbrev pub IsReading : List ℕ → Result (List RoundMap) ℕ → Type 0
IsReading bytes (Ok maps) = IsMapsOf bytes maps
IsReading bytes (Err number) = IsFirstBadRecord bytes number

-- Bytes have one reading: they are the records of no other MAPs, and where a record is bad, no other is the first bad one.
abbrev pub OneReadingOfMaps : Type 0
OneReadingOfMaps = (bytes : List ℕ) (a b : Result (List RoundMap) ℕ) → IsReading bytes a → IsReading bytes b → a ≡ b

-- the text of a fault
abbrev pub fault_text : MapsFault → List ℕ
fault_text fault = codes "record " ++ decimal fault.record ++ codes " is none of a maps file"

-- How records are read, for a call of this crate.

-- no record stands in front, whatever its body
abbrev pub BeginsNoPiece : List ℕ → Type 0
BeginsNoPiece bytes = (p : Piece) (more : List ℕ) → IsPiece p → bytes ≢ record_bytes p ++ more
