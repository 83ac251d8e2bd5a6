-- The lines of the MAPs of a maps file, record by record.
use Rattle.std.proofs.Common.{◌≡◌, ℕ, ◌+◌, ◌<◌, ◌≤◌, List, [], ◌∷◌, ◌++◌, length, map, flat_map, take, get_or}
use Rattle.std.proofs.Common.{Option, refl, ap, sym, subst, ◌∙◌, append-nil}
use Rattle.std.proofs.lemmas.Grind.{flat_map-append, take_at_read}
use Rattle.std.proofs.lemmas.List.{map-append, drop_all, take-append-drop}
use Rattle.std.specs.List.{AllByRecursion}
use Rattle.std.specs.Io.KnownBytes.{Appends}
use Rattle.us_slots.proofs.DeviceLemmas.{appends_nothing, appends_join}
use Rattle.us_codec.specs.Bodies.{MapBody, IsMapBody, SpellsMap}
use Rattle.us_codec.specs.declared.maps_files.Record.{Record}
use Rattle.us_codec.specs.MapsFiles.{IsPiece, maps_file}
use Rattle.us_codec.specs.Records.{IsMapsFile, piece_at}
use Rattle.us_lawful.specs.Runs.{RoundMap}
use Rattle.us_lawful.specs.Lawful.{IsRoundMap}
use Rattle.us_lawful.specs.Texts.{record_of}
use Rattle.mapsim.specs.MapLines.{lines_of}
use Rattle.mapsim.specs.Dumps.{map_text, IsDump}

-- these MAPs are those of so many records of a file
pub record AreMaps (file : List ℕ) (records : List Record) (count : ℕ) (maps : List RoundMap) : Type 0 where
  pub lawful : AllByRecursion (λ m. IsMapBody m.body) maps
  pub stand : map record_of maps ≡ map (piece_at file) (take count records)

-- their lines were printed
pub record Printed (file : List ℕ) (records : List Record) (count : ℕ) (before after : Option (List ℕ)) : Type 0 where
  pub maps : List RoundMap
  pub are : AreMaps file records count maps
  pub took : Appends before after (flat_map map_text maps)

pub none-printed : (file : List ℕ) (records : List Record) (before : Option (List ℕ)) →
    Printed file records 0 before before
none-printed file records before = record {
  maps = [];
  are = record { lawful = tt; stand = refl };
  took = appends_nothing before;
}

all-append : {A : Type 0} (P : A → Type 0) (xs : List A) (x : A) → AllByRecursion P xs → P x →
    AllByRecursion P (xs ++ x ∷ [])
all-append P [] x all one = (one, tt)
all-append P (y ∷ ys) x (first, rest) one = (first, all-append P ys x rest one)

-- the MAP of the next record
abbrev next : List Record → ℕ → Record → MapBody → RoundMap
next records count default body = record { round = (get_or records count default).round; body = body }

-- one more MAP
are-next : (file : List ℕ) (records : List Record) (count : ℕ) (default : Record) (body : MapBody) (maps : List RoundMap) →
    count < length records → AreMaps file records count maps →
    SpellsMap (piece_at file (get_or records count default)).body body →
    AreMaps file records (count + 1) (maps ++ next records count default body ∷ [])
are-next file records count default body maps below are spells =
    let m : RoundMap = next records count default body in
    let stands : record_of m ≡ piece_at file (get_or records count default) =
    ap (λ bytes. record { round = m.round; body = bytes }) (sym spells.spelled) in
    record {
      lawful = all-append (λ m. IsMapBody m.body) maps m are.lawful spells.lawful;
      stand = map-append record_of maps (m ∷ []) ∙
          ap (λ ps. ps ++ record_of m ∷ []) are.stand ∙
          ap (λ p. map (piece_at file) (take count records) ++ p ∷ []) stands ∙
          sym (map-append (piece_at file) (take count records) (get_or records count default ∷ [])) ∙
          ap (map (piece_at file)) (sym (take_at_read records count default below).1);
    }

-- and its lines
lines-next : (maps : List RoundMap) (m : RoundMap) →
    flat_map map_text maps ++ map_text m ≡ flat_map map_text (maps ++ m ∷ [])
lines-next maps m =
    sym (flat_map-append map_text maps (m ∷ []) ∙
    ap (λ text. flat_map map_text maps ++ text) (append-nil (map_text m)))

pub printed-next : (file : List ℕ) (records : List Record) (count : ℕ) (default : Record) (body : MapBody)
    (before between after : Option (List ℕ)) → count < length records → Printed file records count before between →
    SpellsMap (piece_at file (get_or records count default)).body body →
    Appends between after (lines_of (get_or records count default).round body.head.channel body.elements) →
    Printed file records (count + 1) before after
printed-next file records count default body before between after below printed spells took =
    let m : RoundMap = next records count default body in
    record {
      maps = printed.maps ++ m ∷ [];
      are = are-next file records count default body printed.maps below printed.are spells;
      took = subst (Appends before after) (lines-next printed.maps m)
          (appends_join before between after (flat_map map_text printed.maps) (map_text m) printed.took took);
    }

-- records with rounds of four bytes are of MAPs with such rounds
are-round-maps : (maps : List RoundMap) → AllByRecursion IsPiece (map record_of maps) →
    AllByRecursion (λ m. IsMapBody m.body) maps → AllByRecursion IsRoundMap maps
are-round-maps [] pieces lawful = tt
are-round-maps (m ∷ ms) (piece, pieces) (body, lawful) =
    (record { round = piece.round; body = body }, are-round-maps ms pieces lawful)

-- all records of a list are those up to its end
whole : (records : List Record) (count : ℕ) → length records ≤ count → records ≡ take count records
whole records count all =
    sym (take-append-drop count records) ∙ ap (λ rest. take count records ++ rest) (drop_all count records all) ∙
    append-nil (take count records)

-- where all were printed, the text is that of the file
pub all-printed : (file : List ℕ) (records : List Record) (count : ℕ) (before after : Option (List ℕ)) →
    Printed file records count before after → IsMapsFile file records → length records ≤ count →
    (text : List ℕ) × IsDump file text × Appends before after text
all-printed file records count before after printed is all =
    let same : is.pieces ≡ map record_of printed.maps =
    sym is.found ∙ ap (map (piece_at file)) (whole records count all) ∙ sym printed.are.stand in (
      flat_map map_text printed.maps,
      record {
        maps = printed.maps;
        lawful = are-round-maps printed.maps (subst (AllByRecursion IsPiece) same is.each) printed.are.lawful;
        spelled = is.spelled ∙ ap maps_file same;
        lines = refl;
      },
      printed.took,
    )
