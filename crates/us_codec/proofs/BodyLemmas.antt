-- Bytes and the body that they spell: each gives the other.
use Rattle.std.proofs.Common.{◌≡◌, ℕ, suc, ◌+◌, ◌*◌, ◌^◌, ◌<◌, ◌≤◌, List, [], ◌∷◌, ◌++◌, length, drop, slice_index, append_assoc, Bool, true, false, cond, not, eqb, nat_lt, Result, Ok, Err, IfOk, is_some, refl, ap, sym, ◌∙◌, arith}
use Rattle.std.specs.Int.{to_be_bytes, from_be_bytes, w32}
use Rattle.std.specs.List.{AllByRecursion}
use Rattle.us_codec.specs.Elements.{MapElement, IsMapElement, null_at}
use Rattle.us_codec.specs.declared.heads.Head.{Head}
use Rattle.us_codec.specs.Bodies.{max_elements, MapBody, IsMapBody, body_of, element_bytes, front, spelling, SpellsMap}
use Rattle.us_codec.specs.declared.faults.MapFault.{MapFault}
use Rattle.us_codec.specs.declared.faults.MapFault.TheVariants.{Short, LengthMismatch, Reserved, TooManyElements}
use Rattle.std.proofs.lemmas.Nat.{from_be_bytes-to_be_bytes_4}
use Rattle.std.proofs.lemmas.List.{length-append}
use Rattle.std.proofs.lemmas.Bool.{ltb-false, le-ltb, eqb-true, eq-eqb}
use Rattle.us_codec.specs.Faults.{head_at, elements_at, list_fault, front_fault, or_else_fault, read_fault, answer_unless, decode_answer, end_of, build_fault, build_answer}
use Rattle.us_codec.specs.Answers.{UnlessNoMemory}
use Rattle.us_codec.proofs.WordLemmas.{AreBytes, four-bytes, words-of-elements, length-elements, elements-of-element_bytes, length-element_bytes}
use Rattle.us_codec.proofs.ListLemmas.{faultless, joined-fault, none-before}

pub body-found : (bytes : List ℕ) → AreBytes bytes → 16 ≤ length bytes →
    length bytes ≡ 16 + 4 * slice_index bytes 2 → slice_index bytes 3 ≡ 0 →
    bytes ≡ spelling (record { head = head_at bytes; elements = elements_at (drop 16 bytes) })
unfolding spelling front head_at
body-found [] are long count reserved = absurd (omega arith)
body-found (b0 ∷ []) are long count reserved = absurd (omega arith)
body-found (b0 ∷ b1 ∷ []) are long count reserved = absurd (omega arith)
body-found (b0 ∷ b1 ∷ b2 ∷ []) are long count reserved = absurd (omega arith)
body-found (b0 ∷ b1 ∷ b2 ∷ b3 ∷ []) are long count reserved = absurd (omega arith)
body-found (b0 ∷ b1 ∷ b2 ∷ b3 ∷ b4 ∷ []) are long count reserved = absurd (omega arith)
body-found (b0 ∷ b1 ∷ b2 ∷ b3 ∷ b4 ∷ b5 ∷ []) are long count reserved = absurd (omega arith)
body-found (b0 ∷ b1 ∷ b2 ∷ b3 ∷ b4 ∷ b5 ∷ b6 ∷ []) are long count reserved = absurd (omega arith)
body-found (b0 ∷ b1 ∷ b2 ∷ b3 ∷ b4 ∷ b5 ∷ b6 ∷ b7 ∷ []) are long count reserved = absurd (omega arith)
body-found (b0 ∷ b1 ∷ b2 ∷ b3 ∷ b4 ∷ b5 ∷ b6 ∷ b7 ∷ b8 ∷ []) are long count reserved = absurd (omega arith)
body-found (b0 ∷ b1 ∷ b2 ∷ b3 ∷ b4 ∷ b5 ∷ b6 ∷ b7 ∷ b8 ∷ b9 ∷ []) are long count reserved = absurd (omega arith)
body-found (b0 ∷ b1 ∷ b2 ∷ b3 ∷ b4 ∷ b5 ∷ b6 ∷ b7 ∷ b8 ∷ b9 ∷ b10 ∷ []) are long count reserved = absurd (omega arith)
body-found (b0 ∷ b1 ∷ b2 ∷ b3 ∷ b4 ∷ b5 ∷ b6 ∷ b7 ∷ b8 ∷ b9 ∷ b10 ∷ b11 ∷ []) are long count reserved = absurd (omega arith)
body-found (b0 ∷ b1 ∷ b2 ∷ b3 ∷ b4 ∷ b5 ∷ b6 ∷ b7 ∷ b8 ∷ b9 ∷ b10 ∷ b11 ∷ b12 ∷ []) are long count reserved = absurd (omega arith)
body-found (b0 ∷ b1 ∷ b2 ∷ b3 ∷ b4 ∷ b5 ∷ b6 ∷ b7 ∷ b8 ∷ b9 ∷ b10 ∷ b11 ∷ b12 ∷ b13 ∷ []) are long count reserved = absurd (omega arith)
body-found (b0 ∷ b1 ∷ b2 ∷ b3 ∷ b4 ∷ b5 ∷ b6 ∷ b7 ∷ b8 ∷ b9 ∷ b10 ∷ b11 ∷ b12 ∷ b13 ∷ b14 ∷ []) are long count reserved = absurd (omega arith)
body-found (b0 ∷ b1 ∷ b2 ∷ b3 ∷ b4 ∷ b5 ∷ b6 ∷ b7 ∷ b8 ∷ b9 ∷ b10 ∷ b11 ∷ b12 ∷ b13 ∷ b14 ∷ b15 ∷ rest) are long count reserved =
    let later : AreBytes rest =
    λ i. are (suc (suc (suc (suc (suc (suc (suc (suc (suc (suc (suc (suc (suc (suc (suc (suc i)))))))))))))))) in
    let whole : element_bytes (elements_at rest) ≡ rest = words-of-elements rest b2 later (omega arith) in
    let some : length (elements_at rest) ≡ b2 = length-elements rest b2 (omega arith) in
    let es : List MapElement = elements_at rest in
    let put : ℕ → ℕ → List ℕ → List ℕ → List ℕ → List ℕ = λ count reserved start ack later.
    (b0 ∷ b1 ∷ count ∷ reserved ∷ []) ++ start ++ ack ++ (b12 ∷ b13 ∷ b14 ∷ b15 ∷ []) ++ later in
    let start : List ℕ = to_be_bytes w32 (from_be_bytes w32 (b4 ∷ b5 ∷ b6 ∷ b7 ∷ [])) in
    let ack : List ℕ = to_be_bytes w32 (from_be_bytes w32 (b8 ∷ b9 ∷ b10 ∷ b11 ∷ [])) in
    sym (
    ap (λ n. put n 0 start ack (element_bytes es)) some ∙
    ap (λ n. put b2 n start ack (element_bytes es)) (sym reserved) ∙
    ap (λ four. put b2 b3 four ack (element_bytes es))
    (four-bytes b4 b5 b6 b7 (are 4) (are 5) (are 6) (are 7)) ∙
    ap (λ four. put b2 b3 (b4 ∷ b5 ∷ b6 ∷ b7 ∷ []) four (element_bytes es))
    (four-bytes b8 b9 b10 b11 (are 8) (are 9) (are 10) (are 11)) ∙
    ap (λ later. put b2 b3 (b4 ∷ b5 ∷ b6 ∷ b7 ∷ []) (b8 ∷ b9 ∷ b10 ∷ b11 ∷ []) later) whole)

abbrev four : Bool → Bool → Bool → Bool → Result (Unit {0}) MapFault
four short counted free many =
    cond short (Err Short)
    (cond (not counted) (Err LengthMismatch)
    (cond (not free) (Err Reserved) (cond many (Err TooManyElements) (Ok tt))))

four-parts : (short counted free many : Bool) → four short counted free many ≡ Ok tt →
    (short ≡ false) × (counted ≡ true) × (free ≡ true) × (many ≡ false)
four-parts true b c d h = let no : Err Short ≡ Ok tt = h in cc
four-parts false false c d h = let no : Err LengthMismatch ≡ Ok tt = h in cc
four-parts false true false d h = let no : Err Reserved ≡ Ok tt = h in cc
four-parts false true true true h = let no : Err TooManyElements ≡ Ok tt = h in cc
four-parts false true true false h = (refl, refl, refl, refl)

four-passed : (short counted free many : Bool) →
    short ≡ false → counted ≡ true → free ≡ true → many ≡ false → four short counted free many ≡ Ok tt
four-passed short counted free many a b c d = rw (a, b, c, d) refl

-- the tests of the front were passed, and those of the list
record Passed (bytes : List ℕ) : Type 0 where
  long : 16 ≤ length bytes
  counted : length bytes ≡ 16 + 4 * slice_index bytes 2
  reserved : slice_index bytes 3 ≡ 0
  few : slice_index bytes 2 ≤ max_elements
  list : list_fault (head_at bytes) (elements_at (drop 16 bytes)) ≡ Ok tt

front-passed : (bytes : List ℕ) → front_fault bytes ≡ Ok tt →
    list_fault (head_at bytes) (elements_at (drop 16 bytes)) ≡ Ok tt →
    Passed bytes
unfolding front_fault
front-passed bytes front list =
    let tests : (nat_lt (length bytes) 16 ≡ false) × (eqb (length bytes)
    (16 + 4 * slice_index bytes 2) ≡ true) ×
    (eqb (slice_index bytes 3) 0 ≡ true) × (nat_lt max_elements (slice_index bytes 2) ≡ false) =
    four-parts (nat_lt (length bytes) 16) (eqb (length bytes) (16 + 4 * slice_index bytes 2))
    (eqb (slice_index bytes 3) 0)
    (nat_lt max_elements (slice_index bytes 2)) front in
    record {
      long = ltb-false (length bytes) 16 tests.0;
      counted = eqb-true (length bytes) (16 + 4 * slice_index bytes 2) tests.1;
      reserved = eqb-true (slice_index bytes 3) 0 tests.2;
      few = ltb-false max_elements (slice_index bytes 2) tests.3;
      list = list;
    }

both-parts : (first later : Result (Unit {0}) MapFault) → or_else_fault first later ≡ Ok tt →
    (first ≡ Ok tt) × (later ≡ Ok tt)
both-parts (Ok u) later h = (refl, h)
both-parts (Err fault) later h = let no : Err fault ≡ Ok tt = h in cc

passed-from : (bytes : List ℕ) → read_fault bytes ≡ Ok tt → Passed bytes
unfolding read_fault
passed-from bytes h =
    let both : (front_fault bytes ≡ Ok tt) × (list_fault (head_at bytes)
    (elements_at (drop 16 bytes)) ≡ Ok tt) =
    both-parts (front_fault bytes) (list_fault (head_at bytes) (elements_at (drop 16 bytes))) h in
    front-passed bytes both.0 both.1

passed-to : (bytes : List ℕ) → Passed bytes → read_fault bytes ≡ Ok tt
unfolding read_fault front_fault
passed-to bytes p =
    let front : front_fault bytes ≡ Ok tt =
    four-passed (nat_lt (length bytes) 16) (eqb (length bytes) (16 + 4 * slice_index bytes 2))
    (eqb (slice_index bytes 3) 0)
    (nat_lt max_elements (slice_index bytes 2))
    (le-ltb (length bytes) 16 p.long) (eq-eqb (length bytes) (16 + 4 * slice_index bytes 2) p.counted)
    (eq-eqb (slice_index bytes 3) 0 p.reserved) (le-ltb max_elements (slice_index bytes 2) p.few) in
    ap (λ first. or_else_fault first (list_fault (head_at bytes) (elements_at (drop 16 bytes)))) front ∙ p.list

unless-parts : {A : Type 0} (fault : Result (Unit {0}) MapFault) (x y : A) → answer_unless fault x ≡ Ok y →
    (fault ≡ Ok tt) × (x ≡ y)
unless-parts (Ok u) x y h = let some : Ok x ≡ Ok y = h in let same : x ≡ y = cc in (refl, same)
unless-parts (Err e) x y h = let no : Err e ≡ Ok y = h in cc

decoded-found : (bytes : List ℕ) (m : MapBody) → AreBytes bytes → IsMapBody m → decode_answer bytes ≡ Ok m →
    SpellsMap bytes m
unfolding decode_answer
decoded-found bytes m are lawful h =
    let body : MapBody = record { head = head_at bytes; elements = elements_at (drop 16 bytes) } in
    let parts : (read_fault bytes ≡ Ok tt) × (body ≡ m) = unless-parts (read_fault bytes) body m h in
    let p : Passed bytes = passed-from bytes parts.0 in
    record {
      lawful = lawful;
      spelled = body-found bytes are p.long p.counted p.reserved ∙ ap spelling parts.1;
    }

-- what the spelling of a body reads as
record Reads (bytes : List ℕ) (m : MapBody) : Type 0 where
  long : length bytes ≡ 16 + 4 * length m.elements
  count : slice_index bytes 2 ≡ length m.elements
  reserved : slice_index bytes 3 ≡ 0
  head : head_at bytes ≡ m.head
  later : drop 16 bytes ≡ element_bytes m.elements

abbrev body_at : ℕ → ℕ → ℕ → ℕ → List ℕ → List MapElement → MapBody
body_at channel ucd_count start ack backoffs es = record {
  head = record {
    channel = channel;
    ucd_count = ucd_count;
    alloc_start = start;
    ack = ack;
    backoffs = backoffs;
  };
  elements = es;
}

reads-of : (channel ucd_count start ack : ℕ) (backoffs : List ℕ) (es : List MapElement) →
    start < 2 ^ 32 → ack < 2 ^ 32 → length backoffs ≡ 4 →
    Reads (spelling (body_at channel ucd_count start ack backoffs es))
    (body_at channel ucd_count start ack backoffs es)
unfolding spelling front head_at
reads-of channel ucd_count start ack [] es h k four = absurd (omega arith)
reads-of channel ucd_count start ack (b0 ∷ []) es h k four = absurd (omega arith)
reads-of channel ucd_count start ack (b0 ∷ b1 ∷ []) es h k four = absurd (omega arith)
reads-of channel ucd_count start ack (b0 ∷ b1 ∷ b2 ∷ []) es h k four = absurd (omega arith)
reads-of channel ucd_count start ack (b0 ∷ b1 ∷ b2 ∷ b3 ∷ b4 ∷ more) es h k four = absurd (omega arith)
reads-of channel ucd_count start ack (b0 ∷ b1 ∷ b2 ∷ b3 ∷ []) es h k four = record {
  long = let long : length (element_bytes es) ≡ 4 * length es = length-element_bytes es in omega arith;
  count = refl;
  reserved = refl;
  head =
      ap (λ n. record {
        channel = channel;
        ucd_count = ucd_count;
        alloc_start = n;
        ack = from_be_bytes w32 (to_be_bytes w32 ack);
        backoffs = b0 ∷ b1 ∷ b2 ∷ b3 ∷ [];
      })
      (from_be_bytes-to_be_bytes_4 start h) ∙
      ap (λ n. record {
        channel = channel;
        ucd_count = ucd_count;
        alloc_start = start;
        ack = n;
        backoffs = b0 ∷ b1 ∷ b2 ∷ b3 ∷ [];
      })
      (from_be_bytes-to_be_bytes_4 ack k);
  later = refl;
}

unless-passed : {A : Type 0} (fault : Result (Unit {0}) MapFault) (x y : A) → fault ≡ Ok tt → x ≡ y →
    answer_unless fault x ≡ Ok y
unless-passed fault x y h k = rw (h, k) refl

-- bytes that read as a lawful body give it
reads-again : (bytes : List ℕ) (m : MapBody) → Reads bytes m → IsMapBody m → decode_answer bytes ≡ Ok m
unfolding decode_answer
reads-again bytes m r lawful =
    let es : elements_at (drop 16 bytes) ≡ m.elements =
    ap (λ later. elements_at later) r.later ∙ elements-of-element_bytes m.elements lawful.fields in
    let list : list_fault (head_at bytes) (elements_at (drop 16 bytes)) ≡ Ok tt =
    rw (r.head, es) (faultless m.head m.elements lawful.head.backoffs lawful.list lawful.first) in
    let passed : read_fault bytes ≡ Ok tt = passed-to bytes (record {
      long = omega (arith, r.long);
      counted = omega (arith, r.long, r.count);
      reserved = r.reserved;
      few = omega (arith, r.count, lawful.few);
      list = list;
    }) in
    unless-passed (read_fault bytes)
    (record { head = head_at bytes; elements = elements_at (drop 16 bytes) }) m passed
    (rw (r.head, es) refl)

decoded-again : (m : MapBody) → IsMapBody m → decode_answer (spelling m) ≡ Ok m
decoded-again m lawful =
    reads-again (spelling m) m
    (reads-of m.head.channel m.head.ucd_count m.head.alloc_start m.head.ack m.head.backoffs m.elements lawful.head.alloc_start lawful.head.ack lawful.head.four)
    lawful

-- What follows of the answers of `decode`.

pub decode-found : (r : Result MapBody MapFault) (bytes : List ℕ) → AreBytes bytes → IfOk r (λ m. IsMapBody m) →
    UnlessNoMemory r (decode_answer bytes) → IfOk r (λ m. SpellsMap bytes m)
decode-found (Ok m) bytes are lawful gives = decoded-found bytes m are lawful gives
decode-found (Err fault) bytes are lawful gives = tt

pub decode-only : (r : Result MapBody MapFault) (bytes : List ℕ) (m : MapBody) →
    UnlessNoMemory r (decode_answer bytes) →
    SpellsMap bytes m → UnlessNoMemory r (Ok m)
decode-only r bytes m gives spells =
    let is : decode_answer bytes ≡ Ok m =
    ap (λ b. decode_answer b) spells.spelled ∙ decoded-again m spells.lawful in
    rw is at gives

pub ruleset decoding = (decode-found, decode-only)

-- two lawful bodies of one spelling are one
pub one_body : (m n : MapBody) → IsMapBody m → IsMapBody n → spelling m ≡ spelling n → m ≡ n
one_body m n h k e =
    let same : Ok m ≡ Ok n = sym (decoded-again m h) ∙ ap (λ b. decode_answer b) e ∙ decoded-again n k in
    cc

-- What follows of the answers of a draft.

gives-same : (r wanted : Result MapBody MapFault) → r ≡ wanted → UnlessNoMemory r wanted
gives-same (Ok m) wanted e = sym e
gives-same (Err fault) wanted e = λ known. sym e

built-same : (h : Head) (before : List MapElement) (len : ℕ) (after : List MapElement) →
    length before + 1 + length after ≤ max_elements → is_some (end_of before) ≡ false →
    answer_unless (list_fault h (before ++ null_at len ∷ after))
    (record { head = h; elements = before ++ null_at len ∷ after }) ≡
    build_answer h before len after
unfolding build_answer build_fault
built-same h before len after few none =
    rw (joined-fault h before len after none, le-ltb max_elements (length before + 1 + length after) few, none) refl

-- a draft that took the elements before the Null, the Null and those after it
pub joined-draft : (before after d0 d1 d2 d3 : List MapElement) (null : MapElement) →
    d0 ≡ [] → d1 ≡ d0 ++ before → d2 ≡ d1 ++ null ∷ [] → d3 ≡ d2 ++ after → d3 ≡ before ++ null ∷ after
joined-draft before after d0 d1 d2 d3 null e0 e1 e2 e3 = rw (e3, e2, e1, e0)
    (append_assoc before (null ∷ []) after)

-- its answer
pub built-is : (r : Result MapBody MapFault) (h : Head) (before : List MapElement) (len : ℕ)
    (after items : List MapElement) →
    items ≡ before ++ null_at len ∷ after → length before + 1 + length after ≤ max_elements →
    is_some (end_of before) ≡ false →
    r ≡ answer_unless (list_fault h items) (record { head = h; elements = items }) →
    UnlessNoMemory r (build_answer h before len after)
built-is r h before len after items is few none e =
    gives-same r (build_answer h before len after)
    (e ∙ ap (λ es. answer_unless (list_fault h es) (record { head = h; elements = es })) is ∙
    built-same h before len after few none)

-- What follows of the answers of `Map::new`.

unless-refused : {A : Type 0} (fault : Result (Unit {0}) MapFault) (x y : A) → answer_unless fault x ≡ Ok y →
    y ≡ x
unless-refused fault x y h = sym (unless-parts fault x y h).1

pub built-found : (r : Result MapBody MapFault) (h : Head) (before : List MapElement) (len : ℕ)
    (after : List MapElement) →
    IfOk r (λ m. IsMapBody m) → UnlessNoMemory r (build_answer h before len after) →
    IfOk r (λ m. IsMapBody m × (m ≡ body_of h before len after))
unfolding build_answer
built-found (Ok m) h before len after lawful gives =
    (lawful, unless-refused (build_fault h before len after) (body_of h before len after) m gives)
built-found (Err fault) h before len after lawful gives = tt

built-again : (h : Head) (before : List MapElement) (len : ℕ) (after : List MapElement) →
    IsMapBody (body_of h before len after) → build_answer h before len after ≡ Ok (body_of h before len after)
built-again h before len after lawful =
    let all : length (before ++ null_at len ∷ after) ≡ length before + length (null_at len ∷ after) =
    length-append before (null_at len ∷ after) in
    let few : length before + 1 + length after ≤ max_elements = omega (arith, lawful.few, all) in
    let passed : list_fault h (before ++ null_at len ∷ after) ≡ Ok tt =
    faultless h (before ++ null_at len ∷ after) lawful.head.backoffs lawful.list lawful.first in
    sym (built-same h before len after few (none-before before len after lawful.list)) ∙
    ap (λ fault. answer_unless fault (body_of h before len after)) passed

pub built-only : (r : Result MapBody MapFault) (h : Head) (before : List MapElement) (len : ℕ)
    (after : List MapElement) →
    UnlessNoMemory r (build_answer h before len after) → IsMapBody (body_of h before len after) →
    UnlessNoMemory r (Ok (body_of h before len after))
built-only r h before len after gives lawful = rw (built-again h before len after lawful) at gives

pub ruleset building = (built-found, built-only)

-- The parts of a lawful body.

null-fields : (before : List MapElement) (null : MapElement) (after : List MapElement) →
    AllByRecursion IsMapElement (before ++ null ∷ after) → IsMapElement null
null-fields [] null after fields = fields.0
null-fields (e ∷ before) null after fields = null-fields before null after fields.1

-- the Null's offset is in range
pub null_within : (h : Head) (before : List MapElement) (len : ℕ) (after : List MapElement) →
    IsMapBody (body_of h before len after) → len ≤ 16383
null_within h before len after lawful =
    omega (arith, (null-fields before (null_at len) after lawful.fields).offset)

pub ruleset putting = (null_within, joined-draft)
