-- Laws of the grammars: no bytes have two readings.
use Rattle.std.specs.Prelude.{◌≡◌, List}
use Rattle.std.specs.List.{AllByRecursion}
use Rattle.us_codec.specs.Bodies.{MapBody, IsMapBody, spelling}
use Rattle.us_codec.specs.MapsFiles.{Piece, IsPiece, maps_file}

-- Two lawful bodies with the same bytes are one.
abbrev pub OneSpelling : Type 0
OneSpelling = (a b : MapBody) → IsMapBody a → IsMapBody b → spelling a ≡ spelling b → a ≡ b

-- And so are two lists of records: the same rounds with the same bodies, in the same order.
abbrev pub OneReading : Type 0
OneReading = (ps qs : List Piece) → AllByRecursion IsPiece ps → AllByRecursion IsPiece qs →
    maps_file ps ≡ maps_file qs → ps ≡ qs
