-- Maps files: what bytes read as, front to back, and that no bytes read as two files.
use Rattle.std.proofs.Common.{◌≡◌, ◌≢◌, ℕ, zero, suc, ◌+◌, ◌-◌, ◌^◌, ◌<◌, ◌≤◌, ◌⊎◌, List, [], ◌∷◌, ◌++◌, length, map, take, drop, slice_range, get_or, slice_index, replicate, append_assoc, append-nil, true, false, eqb, Result, Ok, Err, IfOk, IfErr, Vec, Global, refl, ap, sym, ◌∙◌, inl, inr, arith}
use Rattle.std.specs.List.{All, AllByRecursion}
use Rattle.std.specs.Int.{to_be_bytes, from_be_bytes, w16, w32}
use Rattle.std.proofs.lemmas.Nat.{be_bytes_2, from_be_bytes-to_be_bytes_2, from_be_bytes-to_be_bytes_4}
use Rattle.std.proofs.lemmas.List.{length-append, length-replicate, length-drop, drop_all, length-take, length-take-le, drop_at, take-append-drop, take_at, get_or-append-add, get_or_append_left}
use Rattle.std.proofs.lemmas.List.Elements.{All-nil, All-cons}
use Rattle.std.proofs.Math.Seq.{drop-append-add}
use Rattle.std.proofs.lemmas.Bool.{cases_lt, eq-eqb, eqb-true}
use Rattle.std.proofs.lemmas.Grind.{flat_map-append}
use Rattle.us_codec.specs.declared.faults.MapFault.{MapFault}
use Rattle.us_codec.specs.declared.faults.MapFault.TheVariants.{NoMemory, RecordCut}
use Rattle.us_codec.specs.Answers.{ListUnlessNoMemory}
use Rattle.us_codec.specs.declared.maps_files.Record.{Record}
use Rattle.us_codec.specs.MapsFiles.{Piece, IsPiece, record_bytes, maps_file}
use Rattle.us_codec.specs.Records.{places, piece_at, IsMapsFile, EndsInside, BeginsWhole}
use Rattle.us_codec.proofs.WordLemmas.{AreBytes, four-bytes}

-- the length that the first six bytes state
abbrev pub stated : List ℕ → ℕ
stated bytes = from_be_bytes w16 (slice_index bytes 4 ∷ slice_index bytes 5 ∷ [])

-- the round that they state
abbrev pub round_at : List ℕ → ℕ
round_at bytes = from_be_bytes w32 (slice_index bytes 0 ∷ slice_index bytes 1 ∷ slice_index bytes 2 ∷ slice_index bytes 3 ∷ [])

-- the record that bytes begin with
abbrev pub first_piece : List ℕ → Piece
first_piece bytes = record { round = round_at bytes; body = take (stated bytes) (drop 6 bytes) }

four-fit : (a b c d : ℕ) → a < 256 → b < 256 → c < 256 → d < 256 →
    from_be_bytes w32 (a ∷ b ∷ c ∷ d ∷ []) < 2 ^ 32
four-fit a b c d ha hb hc hd = omega arith

two-fit : (a b : ℕ) → a < 256 → b < 256 → from_be_bytes w16 (a ∷ b ∷ []) < 2 ^ 16
two-fit a b ha hb = omega arith

are-two : (a b : ℕ) → a < 256 → b < 256 → AreBytes (a ∷ b ∷ [])
are-two a b ha hb zero = ha
are-two a b ha hb (suc zero) = hb
are-two a b ha hb (suc (suc i)) = omega arith

two-bytes : (a b : ℕ) → a < 256 → b < 256 → to_be_bytes w16 (from_be_bytes w16 (a ∷ b ∷ [])) ≡ a ∷ b ∷ []
two-bytes a b ha hb = be_bytes_2 (a ∷ b ∷ []) (from_be_bytes w16 (a ∷ b ∷ [])) refl (are-two a b ha hb) refl

drop-six : (a b c d e f : ℕ) (later : List ℕ) (n : ℕ) →
    drop (6 + n) (a ∷ b ∷ c ∷ d ∷ e ∷ f ∷ later) ≡ drop n later
drop-six a b c d e f later n =
    let six : 6 + n ≡ suc (suc (suc (suc (suc (suc n))))) = omega arith in
    ap (λ k. drop k (a ∷ b ∷ c ∷ d ∷ e ∷ f ∷ later)) six

-- bytes begin with the record that they state, if they are long enough
piece-found : (bytes : List ℕ) → AreBytes bytes → 6 + stated bytes ≤ length bytes →
    bytes ≡ record_bytes (first_piece bytes) ++ drop (6 + stated bytes) bytes
unfolding record_bytes
piece-found [] are long = absurd (omega arith)
piece-found (a ∷ []) are long = absurd (omega arith)
piece-found (a ∷ b ∷ []) are long = absurd (omega arith)
piece-found (a ∷ b ∷ c ∷ []) are long = absurd (omega arith)
piece-found (a ∷ b ∷ c ∷ d ∷ []) are long = absurd (omega arith)
piece-found (a ∷ b ∷ c ∷ d ∷ e ∷ []) are long = absurd (omega arith)
piece-found (a ∷ b ∷ c ∷ d ∷ e ∷ f ∷ later) are long =
    let n : ℕ = from_be_bytes w16 (e ∷ f ∷ []) in
    let some : length (take n later) ≡ n = length-take-le n later (omega arith) in
    let put : List ℕ → List ℕ → List ℕ → List ℕ = λ four two rest. four ++ two ++ take n later ++ rest in
    let four : List ℕ = to_be_bytes w32 (from_be_bytes w32 (a ∷ b ∷ c ∷ d ∷ [])) in
    let rest : List ℕ = drop (6 + n) (a ∷ b ∷ c ∷ d ∷ e ∷ f ∷ later) in
    sym (
    ap (λ k. put four (to_be_bytes w16 k) rest) some ∙
    ap (λ two. put four two rest) (two-bytes e f (are 4) (are 5)) ∙
    ap (λ cells. put cells (e ∷ f ∷ []) rest) (four-bytes a b c d (are 0) (are 1) (are 2) (are 3)) ∙
    ap (λ more. put (a ∷ b ∷ c ∷ d ∷ []) (e ∷ f ∷ []) more) (drop-six a b c d e f later n) ∙
    ap (λ all. a ∷ b ∷ c ∷ d ∷ e ∷ f ∷ all) (take-append-drop n later))

first-is-piece : (bytes : List ℕ) → AreBytes bytes → 6 + stated bytes ≤ length bytes →
    IsPiece (first_piece bytes)
first-is-piece bytes are long =
    let short : stated bytes < 2 ^ 16 = two-fit (slice_index bytes 4) (slice_index bytes 5) (are 4) (are 5) in
    record {
      round = four-fit (slice_index bytes 0) (slice_index bytes 1) (slice_index bytes 2) (slice_index bytes 3)
          (are 0) (are 1) (are 2) (are 3);
      body = omega (arith, short, length-take (stated bytes) (drop 6 bytes));
    }

length-piece : (p : Piece) → length (record_bytes p) ≡ 6 + length p.body
unfolding record_bytes
length-piece p = omega arith

-- behind its first six bytes stands its body
body-behind : (p : Piece) (later : List ℕ) → drop 6 (record_bytes p ++ later) ≡ p.body ++ later
unfolding record_bytes
body-behind p later = refl

-- and what a record begins is that record
stated-again : (p : Piece) (later : List ℕ) → IsPiece p → stated (record_bytes p ++ later) ≡ length p.body
unfolding record_bytes
stated-again p later h = from_be_bytes-to_be_bytes_2 (length p.body) h.body

piece-again : (p : Piece) (later : List ℕ) → IsPiece p → first_piece (record_bytes p ++ later) ≡ p
unfolding record_bytes
piece-again p later h =
    let n : stated (record_bytes p ++ later) ≡ length p.body = stated-again p later h in
    ap (λ round. record { round = round; body = take (stated (record_bytes p ++ later)) (p.body ++ later) })
    (from_be_bytes-to_be_bytes_4 p.round h.round) ∙
    ap (λ body. record { round = p.round; body = body })
    (take_at p.body later (stated (record_bytes p ++ later)) (sym n))

-- what stands behind it
later-again : (p : Piece) (later : List ℕ) → IsPiece p →
    drop (6 + stated (record_bytes p ++ later)) (record_bytes p ++ later) ≡ later
later-again p later h =
    let long : length (record_bytes p) ≡ 6 + length p.body = length-piece p in
    drop_at (record_bytes p) later (6 + stated (record_bytes p ++ later))
    (omega (arith, long, stated-again p later h))

-- no record is whole: none begins, or one does and isn't all there
abbrev IsPartial : List ℕ → Type 0
IsPartial rest = length rest < 6 + stated rest

whole-isn't-partial : (p : Piece) (later : List ℕ) → IsPiece p → IsPartial (record_bytes p ++ later) → ⊥
whole-isn't-partial p later h partial =
    let long : length (record_bytes p ++ later) ≡ length (record_bytes p) + length later =
    length-append (record_bytes p) later in
    omega (arith, long, length-piece p, stated-again p later h)

-- a cut record
cut-partial : (last : Piece) (begun missing : List ℕ) → IsPiece last → record_bytes last ≡ begun ++ missing →
    0 < length missing →
    IsPartial begun
cut-partial last begun missing lawful cut some = elim (cases_lt (length begun) 6) [
  | inl short ↦ omega arith
  | inr long ↦
      let high : slice_index begun 4 ≡ slice_index (record_bytes last) 4 =
      sym (get_or_append_left begun missing 0 4 (omega arith)) ∙ ap (λ bytes. slice_index bytes 4) (sym cut) in
      let low : slice_index begun 5 ≡ slice_index (record_bytes last) 5 =
      sym (get_or_append_left begun missing 0 5 (omega arith)) ∙ ap (λ bytes. slice_index bytes 5) (sym cut) in
      let same : stated begun ≡ stated (record_bytes last) =
      ap (λ a. from_be_bytes w16 (a ∷ slice_index begun 5 ∷ [])) high ∙
      ap (λ b. from_be_bytes w16 (slice_index (record_bytes last) 4 ∷ b ∷ [])) low in
      let is : stated (record_bytes last) ≡ length last.body =
      ap (λ bytes. stated bytes) (sym (append-nil (record_bytes last))) ∙ stated-again last [] lawful in
      let whole : length (record_bytes last) ≡ length begun + length missing =
      ap (λ bytes. length bytes) cut ∙ length-append begun missing in
      omega (arith, whole, same, is, length-piece last, some)
]

-- bytes are split in one way
one-reading : (ps qs : List Piece) (r s : List ℕ) → AllByRecursion IsPiece ps → AllByRecursion IsPiece qs →
    IsPartial r → IsPartial s → maps_file ps ++ r ≡ maps_file qs ++ s → (ps ≡ qs) × (r ≡ s)
unfolding maps_file
one-reading [] [] r s hp hq hr hs e = (refl, e)
one-reading [] (q ∷ qs) r s hp hq hr hs e =
    let is : r ≡ record_bytes q ++ (maps_file qs ++ s) = e ∙ append_assoc (record_bytes q) (maps_file qs) s in
    let partial : IsPartial (record_bytes q ++ (maps_file qs ++ s)) = rw is at hr in
    absurd (whole-isn't-partial q (maps_file qs ++ s) hq.0 partial)
one-reading (p ∷ ps) [] r s hp hq hr hs e =
    let is : s ≡ record_bytes p ++ (maps_file ps ++ r) =
    sym e ∙ append_assoc (record_bytes p) (maps_file ps) r in
    let partial : IsPartial (record_bytes p ++ (maps_file ps ++ r)) = rw is at hs in
    absurd (whole-isn't-partial p (maps_file ps ++ r) hp.0 partial)
one-reading (p ∷ ps) (q ∷ qs) r s hp hq hr hs e =
    let start : record_bytes p ++ (maps_file ps ++ r) ≡ record_bytes q ++ (maps_file qs ++ s) =
    sym (append_assoc (record_bytes p) (maps_file ps) r) ∙ e ∙ append_assoc (record_bytes q) (maps_file qs) s in
    let same : p ≡ q =
    sym (piece-again p (maps_file ps ++ r) hp.0) ∙ ap (λ bytes. first_piece bytes) start ∙
    piece-again q (maps_file qs ++ s) hq.0 in
    let later : maps_file ps ++ r ≡ maps_file qs ++ s =
    sym (later-again p (maps_file ps ++ r) hp.0) ∙ ap (λ bytes. drop (6 + stated bytes) bytes) start ∙
    later-again q (maps_file qs ++ s) hq.0 in
    let more : (ps ≡ qs) × (r ≡ s) = one-reading ps qs r s hp.1 hq.1 hr hs later in
    (ap (λ x. x ∷ ps) same ∙ ap (λ xs. q ∷ xs) more.0, more.1)

-- so that a file has one list of records
pub one_file : (ps qs : List Piece) → AllByRecursion IsPiece ps → AllByRecursion IsPiece qs →
    maps_file ps ≡ maps_file qs → ps ≡ qs
one_file ps qs hp hq e =
    let same : (ps ≡ qs) × ([] ≡ []) =
    one-reading ps qs [] [] hp hq (omega arith) (omega arith)
    (append-nil (maps_file ps) ∙ e ∙ sym (append-nil (maps_file qs))) in
    same.0

-- Reading front to back.

-- what was read, and where the rest begins
pub record Read (bytes rest : List ℕ) (at : ℕ) (records : List Record) : Type 0 where
  pub pieces : List Piece
  pub each : AllByRecursion IsPiece pieces
  pub whole : bytes ≡ maps_file pieces ++ rest
  pub are : records ≡ places 0 pieces
  pub place : at ≡ length (maps_file pieces)
  pub long : at + length rest ≡ length bytes

pub read-start : (bytes : List ℕ) (records : List Record) → records ≡ [] → Read bytes bytes 0 records
unfolding maps_file places
read-start bytes records none = record {
  pieces = [];
  each = tt;
  whole = refl;
  are = none;
  place = refl;
  long = omega arith;
}

file-more : (ps : List Piece) (p : Piece) → maps_file (ps ++ p ∷ []) ≡ maps_file ps ++ record_bytes p
unfolding maps_file
file-more ps p = flat_map-append record_bytes ps (p ∷ []) ∙
    ap (λ later. maps_file ps ++ later) (append-nil (record_bytes p))

each-more : (ps : List Piece) (p : Piece) → AllByRecursion IsPiece ps → IsPiece p →
    AllByRecursion IsPiece (ps ++ p ∷ [])
each-more [] p h k = (k, tt)
each-more (q ∷ qs) p h k = (h.0, each-more qs p h.1 k)

place-of : ℕ → Piece → Record
place-of at p = record { round = p.round; from = at + 6; to = at + 6 + length p.body }

places-more : (at : ℕ) (ps : List Piece) (p : Piece) →
    places at (ps ++ p ∷ []) ≡ places at ps ++ place-of (at + length (maps_file ps)) p ∷ []
unfolding places maps_file place-of
places-more at [] p =
    let here : at ≡ at + 0 = omega arith in
    ap (λ n. place-of n p ∷ []) here
places-more at (q ∷ qs) p =
    let next : ℕ = at + 6 + length q.body in
    let more : places next (qs ++ p ∷ []) ≡ places next qs ++ place-of (next + length (maps_file qs)) p ∷ [] =
    places-more next qs p in
    let whole : length (record_bytes q ++ maps_file qs) ≡ length (record_bytes q) + length (maps_file qs) =
    length-append (record_bytes q) (maps_file qs) in
    let there : next + length (maps_file qs) ≡ at + length (record_bytes q ++ maps_file qs) =
    omega (arith, whole, length-piece q) in
    ap (λ later. place-of at q ∷ later) more ∙
    ap (λ n. place-of at q ∷ (places next qs ++ place-of n p ∷ [])) there

-- memory is asked for behind a whole record: the first of those before, or this one
begins-of : (bytes rest : List ℕ) (ps : List Piece) → AllByRecursion IsPiece ps → bytes ≡ maps_file ps ++ rest →
    AreBytes rest → 6 + stated rest ≤ length rest → BeginsWhole bytes
unfolding maps_file
begins-of bytes rest [] each whole are long = record {
  first = first_piece rest;
  lawful = first-is-piece rest are long;
  behind = drop (6 + stated rest) rest;
  spelled = whole ∙ piece-found rest are long;
}
begins-of bytes rest (p ∷ ps) each whole are long = record {
  first = p;
  lawful = each.0;
  behind = maps_file ps ++ rest;
  spelled = whole ∙ append_assoc (record_bytes p) (maps_file ps) rest;
}

-- the rest of bytes are bytes
rest-are : (bytes done rest : List ℕ) → AreBytes bytes → bytes ≡ done ++ rest → AreBytes rest
rest-are bytes done rest are is = λ i.
    let same : get_or bytes (length done + i) 0 ≡ get_or rest i 0 =
    ap (λ bs. get_or bs (length done + i) 0) is ∙ get_or-append-add done rest i 0 in
    omega (arith, same, are (length done + i))

one-record : (a b c round from to : ℕ) → a ≡ round → b ≡ from → c ≡ to →
    (let left : Record = record { round = a; from = b; to = c } in left) ≡ record {
      round = round;
      from = from;
      to = to;
    }
one-record a b c round from to e f g = rw (e, f, g) refl

pub read-step : (bytes rest after : List ℕ) (at round from to : ℕ) (records : List Record) → AreBytes bytes →
    Read bytes rest at records →
    6 + stated rest ≤ length rest → after ≡ drop (6 + stated rest) rest → round ≡ round_at rest →
    from ≡ at + 6 → to ≡ from + stated rest →
    Read bytes after to (records ++ record { round = round; from = from; to = to } ∷ [])
unfolding place-of
read-step bytes rest after at round from to records are r long is is-round is-from is-to =
    let p : Piece = first_piece rest in
    let rest-bytes : AreBytes rest = rest-are bytes (maps_file r.pieces) rest are r.whole in
    let begins : rest ≡ record_bytes p ++ after =
    piece-found rest rest-bytes long ∙ ap (λ later. record_bytes p ++ later) (sym is) in
    let parts : length rest ≡ length (record_bytes p) + length after =
    ap (λ bs. length bs) begins ∙ length-append (record_bytes p) after in
    let six : length (drop 6 rest) ≡ length rest - 6 = length-drop 6 rest in
    let body : length p.body ≡ stated rest = length-take-le (stated rest) (drop 6 rest) (omega arith) in
    let whole : bytes ≡ maps_file (r.pieces ++ p ∷ []) ++ after =
    r.whole ∙ ap (λ later. maps_file r.pieces ++ later) begins ∙
    sym (append_assoc (maps_file r.pieces) (record_bytes p) after) ∙
    ap (λ done. done ++ after) (sym (file-more r.pieces p)) in
    let at-0 : 0 + length (maps_file r.pieces) ≡ at = omega (arith, r.place) in
    let record-is : place-of (0 + length (maps_file r.pieces)) p ≡ record {
      round = round;
      from = from;
      to = to;
    } =
    one-record (round_at rest) (0 + length (maps_file r.pieces) + 6)
    (0 + length (maps_file r.pieces) + 6 + length p.body) round from to
    (sym is-round) (omega (arith, at-0, is-from)) (omega (arith, at-0, body, is-from, is-to)) in
    let done : length (maps_file (r.pieces ++ p ∷ [])) ≡ length (maps_file r.pieces) + length (record_bytes p) =
    ap (λ file. length file) (file-more r.pieces p) ∙ length-append (maps_file r.pieces) (record_bytes p) in
    record {
      pieces = r.pieces ++ p ∷ [];
      each = each-more r.pieces p r.each (first-is-piece rest rest-bytes long);
      whole = whole;
      are = sym (places-more 0 r.pieces p ∙
          ap (λ found. found ++ place-of (0 + length (maps_file r.pieces)) p ∷ []) (sym r.are) ∙
          ap (λ last. records ++ last ∷ []) record-is);
      place = omega (arith, done, length-piece p, body, r.place);
      long = omega (arith, parts, length-piece p, body, r.long);
    }

pub begins-whole : (bytes rest : List ℕ) (at : ℕ) (records : List Record) → AreBytes bytes →
    Read bytes rest at records →
    6 + stated rest ≤ length rest → BeginsWhole bytes
begins-whole bytes rest at records are r long =
    begins-of bytes rest r.pieces r.each r.whole (rest-are bytes (maps_file r.pieces) rest are r.whole) long

-- a rest that is shorter than the record that it begins is a part of that record, with zeros behind it
zeros-after : (rest : List ℕ) (n i : ℕ) → get_or (rest ++ replicate n 0) i 0 ≡ get_or rest i 0
zeros-after (byte ∷ rest) n zero = refl
zeros-after (byte ∷ rest) n (suc i) = zeros-after rest n i
zeros-after [] zero i = refl
zeros-after [] (suc n) zero = refl
zeros-after [] (suc n) (suc i) = zeros-after [] n i

-- it is cut
record Cut (rest : List ℕ) : Type 0 where
  last : Piece
  lawful : IsPiece last
  missing : List ℕ
  cut : record_bytes last ≡ rest ++ missing
  not_all : 0 < length missing

cut-found : (rest : List ℕ) → AreBytes rest → length rest < 6 + stated rest → Cut rest
cut-found rest are short =
    let n : ℕ = 6 + stated rest - length rest in
    let padded : List ℕ = rest ++ replicate n 0 in
    let padded-are : AreBytes padded = λ i. omega (arith, zeros-after rest n i, are i) in
    let same : stated padded ≡ stated rest =
    ap (λ a. from_be_bytes w16 (a ∷ slice_index padded 5 ∷ [])) (zeros-after rest n 4) ∙
    ap (λ b. from_be_bytes w16 (slice_index rest 4 ∷ b ∷ [])) (zeros-after rest n 5) in
    let long : length padded ≡ length rest + n =
    length-append rest (replicate n 0) ∙ ap (λ k. length rest + k) (length-replicate n 0) in
    let nothing : drop (6 + stated padded) padded ≡ [] =
    drop_all (6 + stated padded) padded (omega (arith, long, same)) in
    let found : padded ≡ record_bytes (first_piece padded) ++ drop (6 + stated padded) padded =
    piece-found padded padded-are (omega (arith, long, same)) in
    record {
      last = first_piece padded;
      lawful = first-is-piece padded padded-are (omega (arith, long, same));
      missing = replicate n 0;
      cut = sym (found ∙ ap (λ later. record_bytes (first_piece padded) ++ later) nothing ∙
          append-nil (record_bytes (first_piece padded)));
      not_all = omega (arith, length-replicate {A = ℕ} n 0);
    }

-- what stands at the places of records is what they have
placed-found : (bytes front : List ℕ) (at : ℕ) (ps : List Piece) → at ≡ length front →
    bytes ≡ front ++ maps_file ps →
    map (piece_at bytes) (places at ps) ≡ ps
unfolding places maps_file
placed-found bytes front at [] here is = refl
placed-found bytes front at (p ∷ ps) here is =
    let next : ℕ = at + 6 + length p.body in
    let later : List ℕ = maps_file ps in
    let joined : bytes ≡ (front ++ record_bytes p) ++ later =
    is ∙ sym (append_assoc front (record_bytes p) later) in
    let there : next ≡ length (front ++ record_bytes p) =
    omega (arith, here, length-append front (record_bytes p), length-piece p) in
    let begins : drop (at + 6) bytes ≡ p.body ++ later =
    ap (λ n. drop (n + 6) bytes) here ∙ ap (λ bs. drop (length front + 6) bs) is ∙
    drop-append-add front (record_bytes p ++ later) 6 ∙ body-behind p later in
    let long : next - (at + 6) ≡ length p.body = omega arith in
    let body : slice_range bytes (at + 6) next ≡ p.body =
    ap (λ n. take n (drop (at + 6) bytes)) long ∙ ap (λ bs. take (length p.body) bs) begins ∙
    take_at p.body later (length p.body) refl in
    ap (λ b. record { round = p.round; body = b } ∷ map (piece_at bytes) (places next ps)) body ∙
    ap (λ qs. p ∷ qs) (placed-found bytes (front ++ record_bytes p) next ps there joined)

whole-of : (bytes rest : List ℕ) (at : ℕ) (records : List Record) (r : Read bytes rest at records) → rest ≡ [] →
    bytes ≡ maps_file r.pieces
whole-of bytes rest at records r is =
    r.whole ∙ ap (λ later. maps_file r.pieces ++ later) is ∙ append-nil (maps_file r.pieces)

empty-from : (xs : List ℕ) → true ≡ eqb (length xs) 0 → xs ≡ []
empty-from [] h = refl
empty-from (x ∷ xs) h = absurd (omega (arith, eqb-true (length (x ∷ xs)) 0 (sym h)))

-- the file was read to its end
pub whole-found : (bytes rest : List ℕ) (at : ℕ) (records : List Record) → Read bytes rest at records →
    true ≡ eqb (length rest) 0 → IsMapsFile bytes records
whole-found bytes rest at records r ended = let is : rest ≡ [] = empty-from rest ended in record {
  pieces = r.pieces;
  each = r.each;
  spelled = whole-of bytes rest at records r is;
  placed = r.are;
  found = ap (λ records. map (piece_at bytes) records) r.are ∙
      placed-found bytes [] 0 r.pieces refl (whole-of bytes rest at records r is);
}

positive : (n : ℕ) → false ≡ eqb n 0 → 0 < n
positive n h = elim (cases_lt 0 n) [
  | inl some ↦ some
  | inr none ↦ let yes : eqb n 0 ≡ true = eq-eqb n 0 (omega arith) in let no : false ≡ true = h ∙ yes in cc
]

-- or ends inside a record
pub inside-found : (bytes rest : List ℕ) (at : ℕ) (records : List Record) → AreBytes bytes →
    Read bytes rest at records →
    false ≡ eqb (length rest) 0 → length rest < 6 + stated rest → EndsInside bytes
inside-found bytes rest at records are r empty short =
    let c : Cut rest = cut-found rest (rest-are bytes (maps_file r.pieces) rest are r.whole) short in
    record {
      pieces = r.pieces;
      each = r.each;
      last = c.last;
      lawful = c.lawful;
      begun = rest;
      missing = c.missing;
      cut = c.cut;
      some = positive (length rest) empty;
      not_all = c.not_all;
      spelled = r.whole;
    }

file-lengths : (ps : List Piece) → (length (maps_file ps) ≡ 0) ⊎ (6 ≤ length (maps_file ps))
unfolding maps_file
file-lengths [] = inl refl
file-lengths (p ∷ ps) =
    inr (omega (arith, length-append (record_bytes p) (maps_file ps), length-piece p))

-- fewer bytes than a record has before its body are no maps file
pub short-cut : (bytes rest : List ℕ) (at : ℕ) (records : List Record) → Read bytes rest at records →
    true ≡ eqb (length rest) 0 → 0 < length bytes → length bytes < 6 → ⊥
short-cut bytes rest at records r ended some short =
    let none : length rest ≡ 0 = eqb-true (length rest) 0 (sym ended) in
    elim (file-lengths r.pieces) [
      | inl empty ↦ omega (arith, empty, none, r.place, r.long)
      | inr long ↦ omega (arith, long, none, r.place, r.long)
    ]

pub ruleset reading = (read-start, read-step)

-- a whole file doesn't end inside a record
not-both : (bytes : List ℕ) (pieces : List Piece) → AllByRecursion IsPiece pieces → bytes ≡ maps_file pieces →
    EndsInside bytes → ⊥
not-both bytes pieces each whole inside =
    let partial : IsPartial inside.begun =
    cut-partial inside.last inside.begun inside.missing inside.lawful inside.cut inside.not_all in
    let same : (pieces ≡ inside.pieces) × ([] ≡ inside.begun) =
    one-reading pieces inside.pieces [] inside.begun each inside.each (omega arith) partial
    (append-nil (maps_file pieces) ∙ sym whole ∙ inside.spelled) in
    omega (arith, ap (λ bs. length bs) same.1, inside.some)

pub only-is : (r : Result (Vec Record Global) MapFault) (bytes : List ℕ) (pieces : List Piece) →
    IfOk r (λ v. IsMapsFile bytes v.items) → IfErr r (λ fault. fault ≢ NoMemory → EndsInside bytes) →
    AllByRecursion IsPiece pieces → bytes ≡ maps_file pieces → ListUnlessNoMemory r (Ok (places 0 pieces))
only-is (Ok v) bytes pieces found inside each whole =
    let same : pieces ≡ found.pieces = one_file pieces found.pieces each found.each (sym whole ∙ found.spelled) in
    ap (λ ps. Ok (places 0 ps)) same ∙ ap (λ rs. Ok rs) (sym found.placed)
only-is (Err e) bytes pieces found inside each whole = λ known. absurd (not-both bytes pieces each whole (inside known))

pub cut-is : (r : Result (Vec Record Global) MapFault) (bytes : List ℕ) →
    IfOk r (λ v. IsMapsFile bytes v.items) → IfErr r (λ fault. fault ≢ NoMemory → fault ≡ RecordCut) →
    EndsInside bytes → ListUnlessNoMemory r (Err RecordCut)
cut-is (Ok v) bytes found fault inside = absurd (not-both bytes found.pieces found.each found.spelled inside)
cut-is (Err e) bytes found fault inside = λ known. ap (λ f. Err f) (sym (fault known))

-- every place lies in the file
abbrev Within : ℕ → Record → Type 0
Within total r = (r.from ≤ r.to) × (r.to ≤ total)

places-within : (at total : ℕ) (ps : List Piece) → at + length (maps_file ps) ≤ total →
    All (Within total) (places at ps)
unfolding places maps_file
places-within at total [] h = All-nil (Within total)
places-within at total (p ∷ ps) h =
    let next : ℕ = at + 6 + length p.body in
    let whole : length (record_bytes p ++ maps_file ps) ≡ length (record_bytes p) + length (maps_file ps) =
    length-append (record_bytes p) (maps_file ps) in
    All-cons (Within total) (record { round = p.round; from = at + 6; to = next }) (places next ps)
    (omega arith, omega (arith, whole, length-piece p, h))
    (places-within next total ps (omega (arith, whole, length-piece p, h)))

pub within-is : (r : Result (Vec Record Global) MapFault) (bytes : List ℕ) →
    IfOk r (λ v. IsMapsFile bytes v.items) →
    IfOk r (λ v. All (λ r. (r.from ≤ r.to) × (r.to ≤ length bytes)) v.items)
within-is (Ok v) bytes found =
    let all : 0 + length (maps_file found.pieces) ≤ length bytes =
    omega (arith, ap (λ bs. length bs) found.spelled) in
    rw found.placed (places-within 0 (length bytes) found.pieces all)
within-is (Err e) bytes found = tt
