-- The body of a MAP, judged where it stands: from the tests to the grammar and back.
use Rattle.std.proofs.Common.{◌≡◌, ℕ, zero, suc, ◌+◌, ◌^◌, ◌<◌, ◌≤◌, Bool, true, false, cond, not, List, [], ◌∷◌, ◌++◌, length, drop, slice_index, Option, Some, None, Result, Ok, Err, refl, sym, ap, ◌∙◌, subst, arith, inl, inr}
use Rattle.std.specs.Prelude.{nat_lt, is_ok, option_to_list, ◌&&◌, if◌then◌else◌}
use Rattle.std.specs.Int.{from_be_bytes, w32}
use Rattle.std.specs.List.{AllByRecursion, list_all}
use Rattle.std.proofs.lemmas.Bool.{cases_Bool, and_parts, false≢true, le-ltb, lt-ltb}
use Rattle.std.proofs.lemmas.Bool.Decides.{nat_tests}
use Rattle.std.proofs.lemmas.List.{length-drop}
use Rattle.us_codec.specs.Elements.{MapElement, IsMapElement, element_of}
use Rattle.us_codec.specs.declared.heads.Head.{Head}
use Rattle.us_codec.specs.declared.faults.MapFault.{MapFault}
use Rattle.us_codec.specs.declared.faults.MapFault.TheVariants.{NoNull, Order, AfterNull, Backoff, FirstOffset}
use Rattle.us_codec.specs.Bodies.{MapBody, IsMapBody, SpellsMap, front, spelling}
use Rattle.us_codec.specs.Faults.{after_end, are_pending_after, before_end, elements_at, end_of, ends_in_pendings, ends_list, head_at, is_backoff, is_null, list_fault, parts_fault, rises, rises_to_end, starts_at_zero}
use Rattle.us_codec.proofs.BodyLemmas.{body-found}
use Rattle.us_codec.proofs.ListLemmas.{faultless, lawful}
use Rattle.us_codec.proofs.PutLemmas.{length-spelling}
use Rattle.us_codec.proofs.WordLemmas.{AreBytes, length-elements}
use Rattle.us_lawful.specs.Headings.{null_offset}
use Rattle.us_map_rules.specs.Bodies.{Fits, IsFront, is_list, null_here, null_told}
use Rattle.us_map_rules.proofs.RecordLemmas.{four_fit}
use Rattle.us_map_rules.proofs.PieceLemmas.{elements_of_body}

-- Elements, one after another.

-- where the Null stands, if offsets rise from `least` on up to it and only pendings are behind
pub null_from : ℕ → List MapElement → Option ℕ
null_from least [] = None
null_from least (e ∷ es) =
    if nat_lt e.offset least then None
    else (if ends_list e then null_here e es else null_from (e.offset + 1) es)

is_from : ℕ → List MapElement → Bool
is_from least [] = true
is_from least (e ∷ es) = not (nat_lt e.offset least)

-- offsets rise where the next one is above the first and they rise from there
above : (a b : ℕ) → nat_lt a b ≡ not (nat_lt b (a + 1))
above a b = grind (arith, nat_tests)

rises_next : (e : MapElement) (es : List MapElement) → ends_list e ≡ false →
    rises_to_end (e ∷ es) ≡ (is_from (e.offset + 1) es && rises_to_end es)
unfolding rises_to_end before_end end_of rises is_from
rises_next e [] goes_on = rw goes_on refl
rises_next e (f ∷ es) goes_on = elim (cases_Bool (ends_list f)) [
  | inl ends ↦ rw (goes_on, ends) (ap (λ b. b && true) (above e.offset f.offset))
  | inr on ↦ rw (goes_on, on)
      (ap (λ b. b && rises (f ∷ (before_end es ++ option_to_list (end_of es)))) (above e.offset f.offset))
]

pending_next : (e : MapElement) (es : List MapElement) → ends_list e ≡ false → ends_in_pendings (e ∷ es) ≡ ends_in_pendings es
unfolding ends_in_pendings after_end end_of
pending_next e es goes_on = rw goes_on refl

null_next : (e : MapElement) (es : List MapElement) → ends_list e ≡ false → end_of (e ∷ es) ≡ end_of es
unfolding end_of
null_next e es goes_on = rw goes_on refl

-- tests in another order
turned : (from null rising pending : Bool) → (from && (null && (rising && pending))) ≡ (null && ((from && rising) && pending))
turned true null rising pending = refl
turned false true rising pending = refl
turned false false rising pending = refl

abbrev told_if : Bool → List MapElement → Option ℕ
told_if passes es = if passes then null_offset es else None

null_from_is : (least : ℕ) (es : List MapElement) → null_from least es ≡ told_if (is_from least es && is_list es) es
unfolding end_of before_end after_end rises rises_to_end ends_in_pendings are_pending_after is_from null_from
null_from_is least [] = refl
null_from_is least (e ∷ es) = elim (cases_Bool (nat_lt e.offset least)) [
  | inl low ↦ rw low refl
  | inr high ↦ elim (cases_Bool (ends_list e)) [
    | inl ends ↦ rw (high, ends) refl
    | inr on ↦
        let tests : (is_from (e.offset + 1) es && is_list es) ≡ is_list (e ∷ es) =
        turned (is_from (e.offset + 1) es) (is_null (end_of es)) (rises_to_end es) (ends_in_pendings es)
        ∙ ap (λ b. is_null (end_of es) && (b && ends_in_pendings es)) (sym (rises_next e es on))
        ∙ ap (λ b. is_null (end_of es) && (rises_to_end (e ∷ es) && b)) (sym (pending_next e es on))
        ∙ ap (λ o. is_null o && (rises_to_end (e ∷ es) && ends_in_pendings (e ∷ es))) (sym (null_next e es on)) in
        let later : null_from least (e ∷ es) ≡ null_from (e.offset + 1) es = rw (high, on) refl in
        let offset : null_offset (e ∷ es) ≡ null_offset es = rw on refl in
        later ∙ null_from_is (e.offset + 1) es ∙ ap (λ b. told_if b es) tests
        ∙ ap (λ o. if is_list (e ∷ es) then o else None) (sym offset)
        ∙ ap (λ b. told_if (b && is_list (e ∷ es)) (e ∷ es)) (sym (ap not high))
  ]
]

from_zero : (es : List MapElement) → is_from 0 es ≡ true
unfolding is_from
from_zero [] = refl
from_zero (e ∷ es) = ap not (le-ltb e.offset 0 (omega arith))

-- so it is of all elements
pub null_from_zero : (es : List MapElement) → null_from 0 es ≡ null_told es
null_from_zero es = null_from_is 0 es ∙ ap (λ b. told_if (b && is_list es) es) (from_zero es)

-- The steps of a walk.

module _ (least : ℕ) (all behind : List MapElement) (e : MapElement) (is : all ≡ e ∷ behind) where
  pub from_low : e.offset < least → null_from least all ≡ None
  unfolding null_from
  from_low low = ap (null_from least) is ∙ rw (lt-ltb e.offset least low) refl

  pub from_end : least ≤ e.offset → ends_list e ≡ true → null_from least all ≡ null_here e behind
  unfolding null_from
  from_end high ends = ap (null_from least) is ∙ rw (le-ltb e.offset least high, ends) refl

  pub from_next : least ≤ e.offset → ends_list e ≡ false → null_from least all ≡ null_from (e.offset + 1) behind
  unfolding null_from
  from_next high on = ap (null_from least) is ∙ rw (le-ltb e.offset least high, on) refl

pub from_none : (least : ℕ) (all : List MapElement) → all ≡ [] → null_from least all ≡ None
unfolding null_from
from_none least all none = ap (null_from least) none

-- Each test, of what is told by them all.

abbrev tests : Bool → Bool → Bool → Bool → Bool → Result (Unit {0}) MapFault
tests a b c d e =
    cond (not a) (Err NoNull) (cond (not b) (Err Order) (cond (not c) (Err AfterNull)
    (cond (not d) (Err Backoff) (cond (not e) (Err FirstOffset) (Ok tt)))))

tests_pass : (a b c d e : Bool) → is_ok (tests a b c d e) ≡ ((a && (b && c)) && (d && e))
tests_pass false b c d e = refl
tests_pass true false c d e = refl
tests_pass true true false d e = refl
tests_pass true true true false e = refl
tests_pass true true true true false = refl
tests_pass true true true true true = refl

list_passes : (h : Head) (es : List MapElement) →
    is_ok (list_fault h es) ≡ (is_list es && (list_all is_backoff h.backoffs && starts_at_zero es))
unfolding list_fault parts_fault
list_passes h es =
    tests_pass (is_null (end_of es)) (rises_to_end es) (ends_in_pendings es) (list_all is_backoff h.backoffs) (starts_at_zero es)

ok_from : (r : Result (Unit {0}) MapFault) → is_ok r ≡ true → r ≡ Ok tt
ok_from (Ok u) ok = refl
ok_from (Err fault) ok = absurd (false≢true ok)

-- where a Null is told, the test is passed
told_from : (passes : Bool) (o : Option ℕ) (len : ℕ) → (if passes then o else None) ≡ Some len → (passes ≡ true) × (o ≡ Some len)
told_from true o len told = (refl, told)
told_from false o len told = absurd (cc told)

-- and where a list passes, its Null is told
null_there : (es : List MapElement) → is_null (end_of es) ≡ true → null_offset es ≡ None → ⊥
unfolding end_of
null_there es null none = by (end_of es) refl null
  where
    by : (o : Option MapElement) → end_of es ≡ o → is_null o ≡ true → ⊥
    by None is null = false≢true null
    by (Some e) is null = cc (none, is)

-- Fields.

element_fits : (word : ℕ) → word < 2 ^ 32 → IsMapElement (element_of word)
unfolding element_of
element_fits word fits = record { sid = omega (arith, fits); iuc = omega arith; offset = omega arith }

elements_fit : (bytes : List ℕ) → AreBytes bytes → AllByRecursion IsMapElement (elements_at bytes)
unfolding elements_at
elements_fit [] are = tt
elements_fit (a ∷ []) are = tt
elements_fit (a ∷ b ∷ []) are = tt
elements_fit (a ∷ b ∷ c ∷ []) are = tt
elements_fit (a ∷ b ∷ c ∷ d ∷ rest) are = (
  element_fits (from_be_bytes w32 (a ∷ b ∷ c ∷ d ∷ [])) (four_fit a b c d (are 0) (are 1) (are 2) (are 3)),
  elements_fit rest (λ i. are (suc (suc (suc (suc i))))),
)

bytes_behind : (n : ℕ) (bytes : List ℕ) → AreBytes bytes → AreBytes (drop n bytes)
bytes_behind zero bytes are = are
bytes_behind (suc n) [] are = are
bytes_behind (suc n) (b ∷ bytes) are = bytes_behind n bytes (λ i. are (suc i))

-- The body.

-- what is told of a body that is found
abbrev pub IsTold : List ℕ → Head → ℕ → Type 0
IsTold bytes head len = (m : MapBody) × SpellsMap bytes m × (m.head ≡ head) × (null_offset m.elements ≡ Some len)

pub body_found : (bytes rest : List ℕ) (head : Head) (len : ℕ) → IsFront bytes → AreBytes bytes → rest ≡ drop 16 bytes →
    head ≡ head_at bytes → Fits head → list_all is_backoff head.backoffs ≡ true →
    starts_at_zero (elements_at rest) ≡ true → null_told (elements_at rest) ≡ Some len → IsTold bytes head len
body_found bytes rest head len front_is are behind is fits backoffs starts told =
    let es : List MapElement = elements_at rest in
    let passed = told_from (is_list es) (null_offset es) len told in
    let few : length es ≡ slice_index bytes 2 =
    length-elements rest (slice_index bytes 2) (omega (arith, ap length behind, length-drop 16 bytes, front_is.counted)) in
    let fault : list_fault head es ≡ Ok tt =
    ok_from (list_fault head es) (list_passes head es ∙ rw (passed.0, backoffs, starts) refl) in
    let fields : AllByRecursion IsMapElement es =
    elements_fit rest (subst AreBytes (sym behind) (bytes_behind 16 bytes are)) in (
      record { head = head; elements = es },
      record {
        lawful = lawful head es fits.channel fits.ucd_count fits.alloc_start fits.ack fits.four
            (omega (arith, few, front_is.few)) fields fault;
        spelled = body-found bytes are front_is.long front_is.counted front_is.reserved
            ∙ ap (λ h. spelling (record { head = h; elements = elements_at (drop 16 bytes) })) (sym is)
            ∙ ap (λ b. spelling (record { head = head; elements = elements_at b })) (sym behind);
      },
      refl,
      passed.1,
    )

-- and back

count_at : (m : MapBody) → slice_index (spelling m) 2 ≡ length m.elements
unfolding spelling front
count_at m = refl

reserved_at : (m : MapBody) → slice_index (spelling m) 3 ≡ 0
unfolding spelling front
reserved_at m = refl

spelled_front : (m : MapBody) → IsMapBody m → IsFront (spelling m)
spelled_front m is = record {
  long = omega (arith, length-spelling m is.head.four);
  counted = omega (arith, length-spelling m is.head.four, count_at m);
  reserved = reserved_at m;
  few = omega (arith, count_at m, is.few);
}

pub no_front : (bytes : List ℕ) → (IsFront bytes → ⊥) → (m : MapBody) → SpellsMap bytes m → ⊥
no_front bytes none m spells = none (subst IsFront (sym spells.spelled) (spelled_front m spells.lawful))

body_with : ℕ → ℕ → ℕ → ℕ → List ℕ → List MapElement → MapBody
body_with channel ucd_count start ack backoffs es = record {
  head = record {
    channel = channel;
    ucd_count = ucd_count;
    alloc_start = start;
    ack = ack;
    backoffs = backoffs;
  };
  elements = es;
}

four_backoffs : (channel ucd_count start ack : ℕ) (backoffs : List ℕ) (es : List MapElement) → length backoffs ≡ 4 →
    (head_at (spelling (body_with channel ucd_count start ack backoffs es))).backoffs ≡ backoffs
unfolding spelling front head_at body_with
four_backoffs channel ucd_count start ack [] es four = absurd (omega (arith, four))
four_backoffs channel ucd_count start ack (a ∷ []) es four = absurd (omega (arith, four))
four_backoffs channel ucd_count start ack (a ∷ b ∷ []) es four = absurd (omega (arith, four))
four_backoffs channel ucd_count start ack (a ∷ b ∷ c ∷ []) es four = absurd (omega (arith, four))
four_backoffs channel ucd_count start ack (a ∷ b ∷ c ∷ d ∷ []) es four = refl
four_backoffs channel ucd_count start ack (a ∷ b ∷ c ∷ d ∷ e ∷ more) es four = absurd (omega (arith, four))

spelled_backoffs : (m : MapBody) → length m.head.backoffs ≡ 4 → (head_at (spelling m)).backoffs ≡ m.head.backoffs
unfolding body_with
spelled_backoffs m =
    four_backoffs m.head.channel m.head.ucd_count m.head.alloc_start m.head.ack m.head.backoffs m.elements

-- a body that a MAP spells passes each test
pub record Passes (bytes : List ℕ) : Type 0 where
  pub backoffs : list_all is_backoff (head_at bytes).backoffs ≡ true
  pub starts : starts_at_zero (elements_at (drop 16 bytes)) ≡ true
  pub list : is_list (elements_at (drop 16 bytes)) ≡ true

pub body_passes : (bytes : List ℕ) (m : MapBody) → SpellsMap bytes m → Passes bytes
body_passes bytes m spells =
    let is : IsMapBody m = spells.lawful in
    let all : (is_list m.elements && (list_all is_backoff m.head.backoffs && starts_at_zero m.elements)) ≡ true =
    sym (list_passes m.head m.elements) ∙ ap is_ok (faultless m.head m.elements is.head.backoffs is.list is.first) in
    let list = and_parts (is_list m.elements) (list_all is_backoff m.head.backoffs && starts_at_zero m.elements) all in
    let others = and_parts (list_all is_backoff m.head.backoffs) (starts_at_zero m.elements) list.1 in
    let elements : elements_at (drop 16 bytes) ≡ m.elements =
    ap (λ b. elements_at (drop 16 b)) spells.spelled ∙ elements_of_body m is in
    record {
      backoffs = ap (λ b. list_all is_backoff (head_at b).backoffs) spells.spelled
          ∙ ap (list_all is_backoff) (spelled_backoffs m is.head.four) ∙ others.0;
      starts = ap starts_at_zero elements ∙ others.1;
      list = ap is_list elements ∙ list.0;
    }

-- and its Null is told
pub null_passes : (es : List MapElement) → is_list es ≡ true → null_told es ≡ None → ⊥
null_passes es list none =
    null_there es (and_parts (is_null (end_of es)) (rises_to_end es && ends_in_pendings es) list).0 (rw list at none)
