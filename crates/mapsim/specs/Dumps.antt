-- MAPs as text (ours): what is printed of a maps file.
use Rattle.std.specs.Prelude.{◌≡◌, ℕ, List, map, flat_map}
use Rattle.std.specs.List.{AllByRecursion}
use Rattle.us_codec.specs.MapsFiles.{maps_file}
use Rattle.us_lawful.specs.Runs.{RoundMap}
use Rattle.us_lawful.specs.Lawful.{IsRoundMap}
use Rattle.us_lawful.specs.Texts.{record_of}
use Rattle.mapsim.specs.MapLines.{lines_of}

-- the lines of the MAP of a round
abbrev pub map_text : RoundMap → List ℕ
map_text m = lines_of m.round m.body.head.channel m.body.elements

-- a text has the lines of the MAPs that a maps file is made of
pub record IsDump (file text : List ℕ) : Type 0 where
  pub maps : List RoundMap
  pub lawful : AllByRecursion IsRoundMap maps
  pub spelled : file ≡ maps_file (map record_of maps)
  pub lines : text ≡ flat_map map_text maps
