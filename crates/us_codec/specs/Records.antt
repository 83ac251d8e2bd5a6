-- Reading a maps file (ours): where the bodies of its records stand, and bytes that end inside a record.
use Rattle.std.specs.Prelude.{◌≡◌, ℕ, ◌+◌, ◌<◌, List, [], ◌∷◌, ◌++◌, length, map, slice_range}
use Rattle.std.specs.List.{AllByRecursion}
use Rattle.us_codec.specs.declared.maps_files.Record.{Record}
use Rattle.us_codec.specs.MapsFiles.{Piece, IsPiece, record_bytes, maps_file}

-- where the bodies stand of records of which the first begins at `at`, behind its six bytes of round and length
unfoldable pub places : ℕ → List Piece → List Record
places at [] = []
places at (p ∷ ps) =
    record { round = p.round; from = at + 6; to = at + 6 + length p.body } ∷ places (at + 6 + length p.body) ps

-- what stands at a place
abbrev pub piece_at : List ℕ → Record → Piece
piece_at bytes r = record { round = r.round; body = slice_range bytes r.from r.to }

-- the grammar: these bytes are a maps file, with bodies at these places
pub record IsMapsFile (bytes : List ℕ) (records : List Record) : Type 0 where
  pub pieces : List Piece
  pub each : AllByRecursion IsPiece pieces
  pub spelled : bytes ≡ maps_file pieces
  pub placed : records ≡ places 0 pieces
  -- so that what stands there is what the records have
  pub found : map (piece_at bytes) records ≡ pieces

-- a whole record stands in front
pub record BeginsWhole (bytes : List ℕ) : Type 0 where
  pub first : Piece
  pub lawful : IsPiece first
  pub behind : List ℕ
  pub spelled : bytes ≡ record_bytes first ++ behind

-- these bytes end inside a record: one begins behind whole ones, and isn't all there
pub record EndsInside (bytes : List ℕ) : Type 0 where
  pub pieces : List Piece
  pub each : AllByRecursion IsPiece pieces
  pub last : Piece
  pub lawful : IsPiece last
  pub begun : List ℕ
  pub missing : List ℕ
  pub cut : record_bytes last ≡ begun ++ missing
  pub some : 0 < length begun
  pub not_all : 0 < length missing
  pub spelled : bytes ≡ maps_file pieces ++ begun
