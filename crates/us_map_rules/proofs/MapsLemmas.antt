-- Maps files: what bytes are read as, and that they are read as nothing else.
use Rattle.std.proofs.Common.{◌≡◌, ℕ, ◌<◌, ◌≤◌, List, [], ◌∷◌, ◌++◌, length, map, Ok, Err, refl, sym, ap, ap₂, ◌∙◌, arith, append_assoc, append-nil}
use Rattle.std.specs.List.{AllByRecursion}
use Rattle.std.proofs.lemmas.List.{map-append}
use Rattle.std.proofs.lemmas.Grind.{flat_map-append}
use Rattle.us_codec.specs.Bodies.{MapBody}
use Rattle.us_codec.specs.MapsFiles.{Piece, record_bytes, maps_file}
use Rattle.us_codec.proofs.ReadingLaws.{one_spelling}
use Rattle.us_output.proofs.PartLemmas.{all_append}
use Rattle.us_lawful.specs.Runs.{RoundMap}
use Rattle.us_lawful.specs.Lawful.{IsRoundMap}
use Rattle.us_lawful.specs.Texts.{record_of}
use Rattle.us_map_rules.specs.MapsReading.{IsMapsOf, BeginsNoRecord, OneReadingOfMaps}
use Rattle.us_map_rules.proofs.RecordLemmas.{length_record, one_piece, record_is_piece}

-- the records of some MAPs
abbrev pub file_of : List RoundMap → List ℕ
file_of maps = maps_file (map record_of maps)

-- Reading on.

-- these MAPs were read, and this is left
pub record Read (bytes : List ℕ) (done : List RoundMap) (rest : List ℕ) : Type 0 where
  pub each : AllByRecursion IsRoundMap done
  pub spelled : bytes ≡ file_of done ++ rest

pub read_nothing : (bytes : List ℕ) → Read bytes [] bytes
unfolding maps_file
read_nothing bytes = record { each = tt; spelled = refl }

file_more : (maps : List RoundMap) (m : RoundMap) → file_of (maps ++ m ∷ []) ≡ file_of maps ++ record_bytes (record_of m)
unfolding maps_file
file_more maps m =
    ap maps_file (map-append record_of maps (m ∷ [])) ∙ flat_map-append record_bytes (map record_of maps) (record_of m ∷ [])
    ∙ ap (λ last. file_of maps ++ last) (append-nil (record_bytes (record_of m)))

pub read_more : (bytes rest behind : List ℕ) (done : List RoundMap) (m : RoundMap) → Read bytes done rest →
    IsRoundMap m → rest ≡ record_bytes (record_of m) ++ behind → Read bytes (done ++ (m ∷ [])) behind
read_more bytes rest behind done m read is begins = record {
  each = all_append IsRoundMap done (m ∷ []) read.each (is, tt);
  spelled = read.spelled ∙ ap (λ left. file_of done ++ left) begins
      ∙ sym (append_assoc (file_of done) (record_bytes (record_of m)) behind)
      ∙ ap (λ front. front ++ behind) (sym (file_more done m));
}

pub read_all : (bytes rest : List ℕ) (maps : List RoundMap) → length rest ≤ 0 → Read bytes maps rest → IsMapsOf bytes maps
read_all bytes [] maps over read = record { each = read.each; spelled = read.spelled ∙ append-nil (file_of maps) }
read_all bytes (b ∷ rest) maps over read = absurd (omega (arith, over))

pub less_left : (rest behind : List ℕ) (m : RoundMap) → rest ≡ record_bytes (record_of m) ++ behind →
    length behind < length rest
less_left rest behind m begins = omega (arith, ap length begins, length_record (record_of m) behind)

-- One reading.

-- records of one spelling are of one MAP
one_map : (m n : RoundMap) (more rest : List ℕ) → IsRoundMap m → IsRoundMap n →
    record_bytes (record_of m) ++ more ≡ record_bytes (record_of n) ++ rest → (m ≡ n) × (more ≡ rest)
one_map m n more rest of_m of_n same =
    let one = one_piece (record_of m) (record_of n) more rest (record_is_piece m of_m) (record_is_piece n of_n) same in
    let body : m.body ≡ n.body = one_spelling m.body n.body of_m.body of_n.body (ap (λ (p : Piece). p.body) one.0) in
    (ap₂ round_map (ap (λ (p : Piece). p.round) one.0) body, one.1)
  where
    round_map : ℕ → MapBody → RoundMap
    round_map r b = record { round = r; body = b }

empty_begins : BeginsNoRecord []
empty_begins m more is spelled = omega (arith, ap length spelled, length_record (record_of m) more)

behind_first : (m : RoundMap) (maps : List RoundMap) (rest : List ℕ) →
    file_of (m ∷ maps) ++ rest ≡ record_bytes (record_of m) ++ (file_of maps ++ rest)
unfolding maps_file
behind_first m maps rest = append_assoc (record_bytes (record_of m)) (file_of maps) rest

-- records with a rest that begins with none are told apart from all others
front : (ms ns : List RoundMap) (x y : List ℕ) → AllByRecursion IsRoundMap ms → AllByRecursion IsRoundMap ns →
    BeginsNoRecord x → BeginsNoRecord y → file_of ms ++ x ≡ file_of ns ++ y → (ms ≡ ns) × (x ≡ y)
unfolding maps_file
front [] [] x y all_ms all_ns ends_x ends_y same = (refl, same)
front [] (n ∷ ns) x y all_ms all_ns ends_x ends_y same =
    absurd (ends_x n (file_of ns ++ y) all_ns.0 (same ∙ behind_first n ns y))
front (m ∷ ms) [] x y all_ms all_ns ends_x ends_y same =
    absurd (ends_y m (file_of ms ++ x) all_ms.0 (sym same ∙ behind_first m ms x))
front (m ∷ ms) (n ∷ ns) x y all_ms all_ns ends_x ends_y same =
    let first = one_map m n (file_of ms ++ x) (file_of ns ++ y) all_ms.0 all_ns.0
    (sym (behind_first m ms x) ∙ same ∙ behind_first n ns y) in
    let more = front ms ns x y all_ms.1 all_ns.1 ends_x ends_y first.1 in
    (ap₂ (λ one later. one ∷ later) first.0 more.0, more.1)

-- the rest of a maps file is empty
whole : (bytes : List ℕ) (maps : List RoundMap) → IsMapsOf bytes maps → bytes ≡ file_of maps ++ []
whole bytes maps is = is.spelled ∙ sym (append-nil (file_of maps))

not_empty : (bytes : List ℕ) → 0 < length bytes → bytes ≡ [] → ⊥
not_empty bytes some none = omega (arith, ap length none)

pub one_reading_of_maps : OneReadingOfMaps
one_reading_of_maps bytes (Ok ms) (Ok ns) a b =
    ap Ok (front ms ns [] [] a.each b.each empty_begins empty_begins (sym (whole bytes ms a) ∙ whole bytes ns b)).0
one_reading_of_maps bytes (Ok ms) (Err j) a b =
    let same = front ms b.before [] b.rest a.each b.each empty_begins b.bad (sym (whole bytes ms a) ∙ b.spelled) in
    absurd (not_empty b.rest b.some (sym same.1))
one_reading_of_maps bytes (Err i) (Ok ns) a b =
    let same = front a.before ns a.rest [] a.each b.each a.bad empty_begins (sym a.spelled ∙ whole bytes ns b) in
    absurd (not_empty a.rest a.some same.1)
one_reading_of_maps bytes (Err i) (Err j) a b =
    let same = front a.before b.before a.rest b.rest a.each b.each a.bad b.bad (sym a.spelled ∙ b.spelled) in
    ap Err (sym a.place ∙ ap length same.0 ∙ b.place)
