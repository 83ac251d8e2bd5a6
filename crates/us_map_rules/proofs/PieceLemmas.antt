-- The elements of a MAP: that they stand side by side, and how they are read where they stand.
use Rattle.std.proofs.Common.{◌≡◌, ◌≢◌, true, false, ℕ, ◌-◌, ◌≤◌, List, [], ◌∷◌, ◌++◌, map, length, drop, slice_get, refl, sym, ap, ◌∙◌, subst, length-append, arith}
use Rattle.std.specs.List.{AllByRecursion}
use Rattle.std.proofs.lemmas.Bool.{eq-eqb, eqb-false, eqb-true, ne_eqb}
use Rattle.std.proofs.lemmas.List.{drop_at}
use Rattle.us_slots.specs.UsageCodes as codes
use Rattle.us_codec.specs.Elements.{MapElement, null_at}
use Rattle.us_codec.specs.Bodies.{MapBody, IsMapBody, IsRising, StartsAtZero, element_bytes, front, spelling}
use Rattle.us_codec.specs.Faults.{elements_at, ends_list}
use Rattle.us_codec.specs.MapsFiles.{Piece, IsPiece, maps_file, record_bytes}
use Rattle.us_codec.proofs.WordLemmas.{elements-of-element_bytes}
use Rattle.us_lawful.specs.Runs.{RoundMap}
use Rattle.us_lawful.specs.Regions.{element_regions, end_of}
use Rattle.us_lawful.specs.Texts.{record_of}
use Rattle.us_map_rules.specs.MapsReading.{BeginsNoPiece, IsMapsOf}
use Rattle.us_map_rules.specs.Pieces.{AreElementsOf, piece_of}
use Rattle.us_map_rules.specs.Minislots.{AreSideBySide}
use Rattle.us_map_rules.proofs.MapsLemmas.{file_of}
use Rattle.us_map_rules.proofs.RecordLemmas as records
use Rattle.us_map_rules.proofs.RecordLemmas.{length_record, record_is_piece}

-- the first of these elements
one_piece : (e next : MapElement) (es : List MapElement) → e.iuc ≢ codes.null →
    element_regions (e ∷ next ∷ es) ≡ piece_of e next ∷ element_regions (next ∷ es)
unfolding element_regions
one_piece e next es other = rw (ne_eqb e.iuc codes.null other) refl

null_piece : (e : MapElement) (es : List MapElement) → e.iuc ≡ codes.null → element_regions (e ∷ es) ≡ []
unfolding element_regions
null_piece e [] null = refl
null_piece e (next ∷ es) null = rw (eq-eqb e.iuc codes.null null) refl

few_pieces : (es : List MapElement) → length es ≤ 1 → element_regions es ≡ []
unfolding element_regions
few_pieces [] few = refl
few_pieces (e ∷ []) few = refl
few_pieces (e ∷ next ∷ es) few = absurd (omega (arith, few))

-- Elements whose offsets rise stand side by side.

side : (from : ℕ) (e : MapElement) (es : List MapElement) (len : ℕ) (after : List MapElement) → from ≡ e.offset →
    AllByRecursion (λ e. e.iuc ≢ codes.null) (e ∷ es) → IsRising (map (λ e. e.offset) (e ∷ es) ++ len ∷ []) →
    AreSideBySide from (element_regions ((e ∷ es) ++ null_at len ∷ after))
side from e [] len after at others rising =
    subst (AreSideBySide from) (sym (one_piece e (null_at len) after others.0)) (
      sym at,
      omega (arith, rising.0),
      subst (AreSideBySide (end_of (piece_of e (null_at len)))) (sym (null_piece (null_at len) after refl)) tt,
    )
side from e (next ∷ es) len after at others rising =
    subst (AreSideBySide from) (sym (one_piece e next (es ++ null_at len ∷ after) others.0))
    (sym at, omega (arith, rising.0), side (end_of (piece_of e next)) next es len after (omega (arith, rising.0)) others.1 rising.1)

first_side : (before : List MapElement) (len : ℕ) (after : List MapElement) → StartsAtZero (before ++ null_at len ∷ after) →
    AllByRecursion (λ e. e.iuc ≢ codes.null) before → IsRising (map (λ e. e.offset) before ++ len ∷ []) →
    AreSideBySide 0 (element_regions (before ++ null_at len ∷ after))
first_side [] len after start others rising = subst (AreSideBySide 0) (sym (null_piece (null_at len) after refl)) tt
first_side (e ∷ es) len after start others rising = side 0 e es len after (sym start) others rising

pub elements_side_by_side : (m : MapBody) → IsMapBody m → AreSideBySide 0 (element_regions m.elements)
elements_side_by_side m is =
    subst (λ es. AreSideBySide 0 (element_regions es)) (sym is.list.joined)
    (first_side is.list.before is.list.len is.list.after (subst StartsAtZero is.list.joined is.first) is.list.others is.list.rising)

-- An element and those behind it: the next one is reached, or there is none.

pub next_of : (e next : MapElement) (all more : List MapElement) → all ≡ next ∷ more → ends_list e ≡ false →
    element_regions (e ∷ all) ≡ piece_of e next ∷ element_regions (next ∷ more)
next_of e next all more is goes_on = ap (λ es. element_regions (e ∷ es)) is ∙ one_piece e next more (eqb-false e.iuc codes.null goes_on)

pub none_of : (e : MapElement) (all : List MapElement) → all ≡ [] → element_regions (e ∷ all) ≡ []
none_of e all none = ap (λ es. element_regions (e ∷ es)) none ∙ few_pieces (e ∷ []) (omega arith)

pub none_behind : (e : MapElement) (all : List MapElement) → ends_list e ≡ true → element_regions (e ∷ all) ≡ []
none_behind e all ends = null_piece e all (eqb-true e.iuc codes.null ends)

pub none_at : (all : List MapElement) → all ≡ [] → element_regions all ≡ []
none_at all none = few_pieces all (omega (arith, ap length none))

-- those of a body
length_front : (m : MapBody) (count : ℕ) → IsMapBody m → length (front m.head count) ≡ 16
unfolding front
length_front m count is = omega (arith, is.head.four)

pub elements_of_body : (m : MapBody) → IsMapBody m → elements_at (drop 16 (spelling m)) ≡ m.elements
unfolding spelling
elements_of_body m is =
    ap (λ bytes. elements_at bytes)
    (drop_at (front m.head (length m.elements)) (element_bytes m.elements) 16 (length_front m (length m.elements) is))
    ∙ elements-of-element_bytes m.elements is.fields

-- Records, one after another.

-- bytes that begin with no record have no MAP,
pub none_read : (bytes : List ℕ) → BeginsNoPiece bytes → (maps : List RoundMap) → IsMapsOf bytes maps →
    IsMapsOf (drop 0 bytes) (drop 1 maps) × AreElementsOf (slice_get maps 0) []
unfolding maps_file elements_at element_regions
none_read bytes none [] of = (of, (tt, refl))
none_read bytes none (m ∷ maps) of =
    absurd (none (record_of m) (file_of maps) (record_is_piece m of.each.0) of.spelled)

-- and those that begin with one have its MAP first
pub record_read : (bytes : List ℕ) (p : Piece) (behind elements : List ℕ) (len : ℕ) → IsPiece p →
    bytes ≡ record_bytes p ++ behind → len ≡ length bytes - length behind → elements ≡ drop 16 p.body →
    (maps : List RoundMap) → IsMapsOf bytes maps →
    IsMapsOf (drop len bytes) (drop 1 maps) × AreElementsOf (slice_get maps 0) elements
unfolding maps_file
record_read bytes p behind elements len is spelled long told [] of =
    absurd (omega (arith, ap length (sym spelled ∙ of.spelled), length_record p behind))
record_read bytes p behind elements len is spelled long told (m ∷ maps) of =
    let one = records.one_piece p (record_of m) behind (file_of maps) is (record_is_piece m of.each.0) (sym spelled ∙ of.spelled) in
    let rest : drop len bytes ≡ behind =
    ap (drop len) spelled ∙ drop_at (record_bytes p) behind len
    (omega (arith, long, ap length spelled, length-append (record_bytes p) behind)) in
    let body : elements_at elements ≡ m.body.elements =
    ap elements_at told ∙ ap (λ (q : Piece). elements_at (drop 16 q.body)) one.0 ∙ elements_of_body m.body of.each.0.body in (
      subst (λ bs. IsMapsOf bs maps) (sym rest) (record { each = of.each.1; spelled = one.1 }),
      (
        subst (λ es. AreSideBySide 0 (element_regions es)) (sym body) (elements_side_by_side m.body of.each.0.body),
        ap element_regions body,
      ),
    )
