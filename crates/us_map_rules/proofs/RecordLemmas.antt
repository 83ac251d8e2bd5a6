-- Records of a maps file: what bytes begin with, and that they begin with nothing else.
use Rattle.std.proofs.Common.{◌≡◌, ℕ, ◌+◌, ◌-◌, ◌^◌, ◌<◌, ◌≤◌, zero, suc, List, [], ◌∷◌, ◌++◌, length, take, drop, get_or, Option, Some, refl, sym, ap, ap₂, ◌∙◌, arith}
use Rattle.std.specs.Int.{to_be_bytes, from_be_bytes, w16, w32}
use Rattle.std.proofs.lemmas.Nat.{be_bytes_2, from_be_bytes-to_be_bytes_2, from_be_bytes-to_be_bytes_4}
use Rattle.std.proofs.lemmas.List.{length-append, length-take, length-drop, length-take-le, take_all, take-append-drop, take_at, drop_at}
use Rattle.us_codec.specs.declared.heads.Head.{Head}
use Rattle.us_codec.specs.Bodies.{MapBody, SpellsMap}
use Rattle.us_codec.specs.MapsFiles.{Piece, IsPiece, record_bytes}
use Rattle.us_codec.proofs.WordLemmas.{AreBytes, four-bytes}
use Rattle.us_codec.proofs.FileLemmas.{stated, round_at}
use Rattle.us_codec.proofs.PutLemmas.{length-spelling}
use Rattle.us_lawful.specs.Runs.{RoundMap}
use Rattle.us_lawful.specs.Headings.{Heading, heading_told, null_offset}
use Rattle.us_lawful.specs.Lawful.{IsRoundMap}
use Rattle.us_lawful.specs.Texts.{record_of}
use Rattle.us_map_rules.specs.MapsReading.{BeginsNoPiece, BeginsNoRecord}

-- What is found.

-- what stands behind six bytes, as code takes it
pub whole_rest : (bytes : List ℕ) → take (length bytes - 6) (drop 6 bytes) ≡ drop 6 bytes
whole_rest bytes = take_all (length bytes - 6) (drop 6 bytes) (omega (arith, length-drop 6 bytes))

-- two bytes are those of the number that they spell
are_two : (e f : ℕ) → e < 256 → f < 256 → AreBytes (e ∷ f ∷ [])
are_two e f small_e small_f zero = small_e
are_two e f small_e small_f (suc zero) = small_f
are_two e f small_e small_f (suc (suc i)) = omega arith

two_bytes : (e f : ℕ) → e < 256 → f < 256 → to_be_bytes w16 (from_be_bytes w16 (e ∷ f ∷ [])) ≡ e ∷ f ∷ []
two_bytes e f small_e small_f =
    be_bytes_2 (e ∷ f ∷ []) (from_be_bytes w16 (e ∷ f ∷ [])) refl (are_two e f small_e small_f) refl

-- bytes begin with the record whose round and length they state, if they are long enough
pub piece_found : (bytes : List ℕ) → AreBytes bytes → 6 ≤ length bytes → stated bytes ≤ length (drop 6 bytes) →
    bytes ≡ record_bytes (record { round = round_at bytes; body = take (stated bytes) (drop 6 bytes) }) ++
    drop (stated bytes) (drop 6 bytes)
unfolding record_bytes
piece_found (a ∷ b ∷ c ∷ d ∷ e ∷ f ∷ later) are long enough =
    let n : ℕ = from_be_bytes w16 (e ∷ f ∷ []) in
    let spell : List ℕ → List ℕ → List ℕ = λ round len. (round ++ len ++ take n later) ++ drop n later in
    sym (
    ap (λ k. spell (to_be_bytes w32 (from_be_bytes w32 (a ∷ b ∷ c ∷ d ∷ []))) (to_be_bytes w16 k))
    (length-take-le n later enough)
    ∙ ap₂ spell (four-bytes a b c d (are 0) (are 1) (are 2) (are 3)) (two_bytes e f (are 4) (are 5))
    ∙ ap (λ all. a ∷ b ∷ c ∷ d ∷ e ∷ f ∷ all) (take-append-drop n later))
piece_found (a ∷ b ∷ c ∷ d ∷ e ∷ []) are long enough = absurd (omega arith)
piece_found (a ∷ b ∷ c ∷ d ∷ []) are long enough = absurd (omega arith)
piece_found (a ∷ b ∷ c ∷ []) are long enough = absurd (omega arith)
piece_found (a ∷ b ∷ []) are long enough = absurd (omega arith)
piece_found (a ∷ []) are long enough = absurd (omega arith)
piece_found [] are long enough = absurd (omega arith)

-- what bytes spell has no more than theirs
pub four_fit : (a b c d : ℕ) → a < 256 → b < 256 → c < 256 → d < 256 → from_be_bytes w32 (a ∷ b ∷ c ∷ d ∷ []) < 2 ^ 32
four_fit a b c d small_a small_b small_c small_d = omega arith

two_fit : (e f : ℕ) → e < 256 → f < 256 → from_be_bytes w16 (e ∷ f ∷ []) < 2 ^ 16
two_fit e f small_e small_f = omega arith

-- and that is one
pub piece_is : (bytes : List ℕ) → AreBytes bytes →
    IsPiece (record { round = round_at bytes; body = take (stated bytes) (drop 6 bytes) })
piece_is bytes are = record {
  round = four_fit (get_or bytes 0 0) (get_or bytes 1 0) (get_or bytes 2 0) (get_or bytes 3 0)
      (are 0) (are 1) (are 2) (are 3);
  body = omega (
    arith,
    two_fit (get_or bytes 4 0) (get_or bytes 5 0) (are 4) (are 5),
    length-take (stated bytes) (drop 6 bytes),
  );
}

-- What is spelled so is read.

-- its length, the length and the round that it states, and what stands behind those
pub length_record : (p : Piece) (more : List ℕ) → length (record_bytes p ++ more) ≡ 6 + length p.body + length more
unfolding record_bytes
length_record p more = omega (arith, length-append (record_bytes p) more, length-append {A = ℕ})

stated_again : (p : Piece) (more : List ℕ) → IsPiece p → stated (record_bytes p ++ more) ≡ length p.body
unfolding record_bytes
stated_again p more is = from_be_bytes-to_be_bytes_2 (length p.body) is.body

round_again : (p : Piece) (more : List ℕ) → IsPiece p → round_at (record_bytes p ++ more) ≡ p.round
unfolding record_bytes
round_again p more is = from_be_bytes-to_be_bytes_4 p.round is.round

behind_header : (p : Piece) (more : List ℕ) → drop 6 (record_bytes p ++ more) ≡ p.body ++ more
unfolding record_bytes
behind_header p more = refl

-- bytes begin with one record at most
pub one_piece : (p q : Piece) (more rest : List ℕ) → IsPiece p → IsPiece q →
    record_bytes p ++ more ≡ record_bytes q ++ rest → (p ≡ q) × (more ≡ rest)
one_piece p q more rest of_p of_q same =
    let long : length p.body ≡ length q.body =
    sym (stated_again p more of_p) ∙ ap (λ bytes. stated bytes) same ∙ stated_again q rest of_q in
    let round : p.round ≡ q.round =
    sym (round_again p more of_p) ∙ ap (λ bytes. round_at bytes) same ∙ round_again q rest of_q in
    let behind : p.body ++ more ≡ q.body ++ rest =
    sym (behind_header p more) ∙ ap (λ bytes. drop 6 bytes) same ∙ behind_header q rest in
    let body : p.body ≡ q.body =
    sym (take_at p.body more (length p.body) refl) ∙ ap (λ bytes. take (length p.body) bytes) behind
    ∙ take_at q.body rest (length p.body) (sym long) in
    let later : more ≡ rest =
    sym (drop_at p.body more (length p.body) refl) ∙ ap (λ bytes. drop (length p.body) bytes) behind
    ∙ drop_at q.body rest (length p.body) (sym long) in
    (ap₂ piece round body, later)
  where
    piece : ℕ → List ℕ → Piece
    piece r b = record { round = r; body = b }

-- where they are too short to state a length, or for the length that they state, they begin with none
pub too_short : (bytes : List ℕ) → length bytes < 6 → BeginsNoPiece bytes
too_short bytes short p more is spelled = omega (arith, short, ap length spelled, length_record p more)

pub cut_short : (bytes : List ℕ) → length (drop 6 bytes) < stated bytes → BeginsNoPiece bytes
cut_short bytes short p more is spelled =
    omega (arith, rw spelled at short, stated_again p more is, ap length (behind_header p more), length-append p.body more)

-- Records of MAPs.

-- the body of a MAP fits into one
pub record_is_piece : (m : RoundMap) → IsRoundMap m → IsPiece (record_of m)
record_is_piece m is = record {
  round = is.round;
  body = omega (arith, length-spelling m.body is.body.head.four, is.body.few);
}

-- where bytes begin with no record, they begin with that of no MAP,
pub no_record : (bytes : List ℕ) → BeginsNoPiece bytes → BeginsNoRecord bytes
no_record bytes none = λ m more is. none (record_of m) more (record_is_piece m is)

-- and that of this one where what it has is its body
pub map_told : (bytes : List ℕ) (p : Piece) (behind : List ℕ) (head : Head) (len : ℕ) → IsPiece p →
    bytes ≡ record_bytes p ++ behind →
    (m : MapBody) × SpellsMap p.body m × (m.head ≡ head) × (null_offset m.elements ≡ Some len) →
    (m : RoundMap) × IsRoundMap m × (bytes ≡ record_bytes (record_of m) ++ behind)
    × (heading_told m ≡ record { round = p.round; head = head; len = Some len })
map_told bytes p behind head len is spelled told = (
  record { round = p.round; body = told.0 },
  record { round = is.round; body = told.1.lawful },
  spelled ∙ ap (λ b. record_bytes (piece p.round b) ++ behind) told.1.spelled,
  ap (λ h. heading h (null_offset told.0.elements)) told.2 ∙ ap (heading head) told.3,
)
  where
    piece : ℕ → List ℕ → Piece
    piece round body = record { round = round; body = body }

    heading : Head → Option ℕ → Heading
    heading head len = record { round = p.round; head = head; len = len }

-- but where it has the body of none, of no MAP either
pub no_body : (bytes : List ℕ) (p : Piece) (behind : List ℕ) → IsPiece p → bytes ≡ record_bytes p ++ behind →
    ((m : MapBody) → SpellsMap p.body m → ⊥) → BeginsNoRecord bytes
no_body bytes p behind of_p spelled none = λ m more is same.
    let one = one_piece p (record_of m) behind more of_p (record_is_piece m is) (sym spelled ∙ same) in
    none m.body (record { lawful = is.body; spelled = ap (λ (q : Piece). q.body) one.0 })
