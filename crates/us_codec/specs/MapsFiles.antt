-- Maps files (ours): records, one after another, each the round, the length of a body and the body.
use Rattle.std.specs.Prelude.{ℕ, ◌^◌, ◌<◌, List, ◌++◌, length, flat_map}
use Rattle.std.specs.Int.{to_be_bytes, w16, w32}

-- a record as its round and its body, whatever that spells
pub record Piece : Type 0 where
  pub round : ℕ
  pub body : List ℕ

-- they keep to four bytes, and to a length of two
pub record IsPiece (p : Piece) : Type 0 where
  pub round : p.round < 2 ^ 32
  pub body : length p.body < 2 ^ 16

-- its bytes
unfoldable pub record_bytes : Piece → List ℕ
record_bytes p = to_be_bytes w32 p.round ++ to_be_bytes w16 (length p.body) ++ p.body

-- the bytes of a maps file
unfoldable pub maps_file : List Piece → List ℕ
maps_file ps = flat_map record_bytes ps
