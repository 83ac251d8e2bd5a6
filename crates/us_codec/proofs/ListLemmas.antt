-- The tests of a whole list of elements, and the grammar of one: each gives the other.
use Rattle.std.proofs.Common.{◌≡◌, ◌≢◌, ℕ, ◌^◌, ◌<◌, ◌≤◌, List, [], ◌∷◌, ◌++◌, length, map, Bool, true, false, not, cond, eqb, nat_lt, Option, Some, None, is_some, Result, Ok, Err, refl, ap, sym, inl, inr, ◌∙◌}
use Rattle.std.specs.List.{list_all, AllByRecursion}
use Rattle.std.proofs.lemmas.Bool.{cases_Bool, and_parts, and_from, ltb-true, lt-ltb, leb-true, le-leb, eqb-true, eq-eqb, eqb-false, ne_eqb, not-true, not_from_false}
use Rattle.std.proofs.lemmas.List.{map-append}
use Rattle.std.proofs.lemmas.List.Folds.{list_all-append}
use Rattle.us_slots.specs.UsageCodes as codes
use Rattle.us_codec.specs.declared.faults.MapFault.{MapFault}
use Rattle.us_codec.specs.declared.faults.MapFault.TheVariants.{NoNull, Order, AfterNull, Backoff, FirstOffset}
use Rattle.us_codec.specs.Elements.{MapElement, IsMapElement, null_at}
use Rattle.us_codec.specs.declared.heads.Head.{Head}
use Rattle.us_codec.specs.Bodies.{max_elements, IsMapBody, IsRising, IsElementList, StartsAtZero}
use Rattle.us_codec.specs.Faults.{ends_list, end_of, before_end, after_end, is_null, rises, rises_to_end, is_pending, are_pending_after, ends_in_pendings, is_backoff, starts_at_zero, parts_fault, list_fault}

abbrev offsets : List MapElement → List ℕ
offsets es = map (λ e. e.offset) es

-- Behind a list with a Null, nothing changes the Null.

pub null-append : (xs ys : List MapElement) (null : MapElement) → end_of xs ≡ Some null →
    end_of (xs ++ ys) ≡ Some null
unfolding end_of
null-append [] ys null h = let no : None ≡ Some null = h in cc
null-append (e ∷ es) ys null h = elim (cases_Bool (ends_list e)) [
  | inl t ↦ rw t (rw t at h)
  | inr f ↦ rw f (null-append es ys null (rw f at h))
]

pub before-append : (xs ys : List MapElement) (null : MapElement) → end_of xs ≡ Some null →
    before_end (xs ++ ys) ≡ before_end xs
unfolding end_of before_end
before-append [] ys null h = let no : None ≡ Some null = h in cc
before-append (e ∷ es) ys null h = elim (cases_Bool (ends_list e)) [
  | inl t ↦ rw t refl
  | inr f ↦ rw f (ap (λ xs. e ∷ xs) (before-append es ys null (rw f at h)))
]

pub after-append : (xs ys : List MapElement) (null : MapElement) → end_of xs ≡ Some null →
    after_end (xs ++ ys) ≡ after_end xs ++ ys
unfolding end_of after_end
after-append [] ys null h = let no : None ≡ Some null = h in cc
after-append (e ∷ es) ys null h = elim (cases_Bool (ends_list e)) [
  | inl t ↦ rw t refl
  | inr f ↦ rw f (after-append es ys null (rw f at h))
]

-- From the tests to the grammar.

-- a list is what stands before the Null, the Null and what stands after it
split : (es : List MapElement) (null : MapElement) → end_of es ≡ Some null →
    es ≡ before_end es ++ null ∷ after_end es
unfolding end_of before_end after_end
split [] null h = let no : None ≡ Some null = h in cc
split (e ∷ es) null h = elim (cases_Bool (ends_list e)) [
  | inl t ↦ let some : Some e ≡ Some null = rw t at h in let same : e ≡ null = cc in rw t (ap (λ x. x ∷ es) same)
  | inr f ↦ rw f (ap (λ xs. e ∷ xs) (split es null (rw f at h)))
]

null-ends_list : (es : List MapElement) (null : MapElement) → end_of es ≡ Some null → null.iuc ≡ codes.null
unfolding end_of
null-ends_list [] null h = let no : None ≡ Some null = h in cc
null-ends_list (e ∷ es) null h = elim (cases_Bool (ends_list e)) [
  | inl t ↦ let some : Some e ≡ Some null = rw t at h in let same : e ≡ null = cc in sym (ap (λ x. x.iuc) same) ∙ eqb-true e.iuc codes.null t
  | inr f ↦ null-ends_list es null (rw f at h)
]

others-before : (es : List MapElement) → AllByRecursion (λ e. e.iuc ≢ codes.null) (before_end es)
unfolding before_end
others-before [] = tt
others-before (e ∷ es) = elim (cases_Bool (ends_list e)) [
  | inl t ↦ rw t tt
  | inr f ↦ rw f (eqb-false e.iuc codes.null f, others-before es)
]

rising-from : (es : List MapElement) → rises es ≡ true → IsRising (offsets es)
unfolding rises
rising-from [] h = tt
rising-from (e ∷ []) h = tt
rising-from (e ∷ f ∷ es) h =
    let parts : (nat_lt e.offset f.offset ≡ true) × (rises (f ∷ es) ≡ true) =
    and_parts (nat_lt e.offset f.offset) (rises (f ∷ es)) h in
    (ltb-true e.offset f.offset parts.0, rising-from (f ∷ es) parts.1)

pending-from : (len : ℕ) (es : List MapElement) → list_all (is_pending len) es ≡ true →
    AllByRecursion (λ e. (e.iuc ≢ codes.null) × (e.offset ≡ len)) es
pending-from len [] h = tt
pending-from len (e ∷ es) h =
    let parts : (is_pending len e ≡ true) × (list_all (is_pending len) es ≡ true) =
    and_parts (is_pending len e) (list_all (is_pending len) es) h in
    let both : (not (ends_list e) ≡ true) × (eqb e.offset len ≡ true) =
    and_parts (not (ends_list e)) (eqb e.offset len) parts.0 in
    ((eqb-false e.iuc codes.null (not-true (ends_list e) both.0), eqb-true e.offset len both.1), pending-from len es parts.1)

backoffs-from : (bs : List ℕ) → list_all is_backoff bs ≡ true → AllByRecursion (λ backoff. backoff ≤ 15) bs
backoffs-from [] h = tt
backoffs-from (b ∷ bs) h =
    let parts : (is_backoff b ≡ true) × (list_all is_backoff bs ≡ true) =
    and_parts (is_backoff b) (list_all is_backoff bs) h in
    (leb-true b 15 parts.0, backoffs-from bs parts.1)

zero-from : (es : List MapElement) → starts_at_zero es ≡ true → StartsAtZero es
unfolding starts_at_zero
zero-from [] h = tt
zero-from (e ∷ es) h = eqb-true e.offset 0 h

-- what the tests of a list say of it
pub record Found (h : Head) (es : List MapElement) : Type 0 where
  pub list : IsElementList es
  pub first : StartsAtZero es
  pub backoffs : AllByRecursion (λ backoff. backoff ≤ 15) h.backoffs

-- five tests in order
abbrev five : Bool → Bool → Bool → Bool → Bool → Result (Unit {0}) MapFault
five null rising pending small zero =
    cond (not null) (Err NoNull) (cond (not rising) (Err Order) (cond (not pending) (Err AfterNull)
    (cond (not small) (Err Backoff) (cond (not zero) (Err FirstOffset) (Ok tt)))))

-- all were passed
five-parts : (null rising pending small zero : Bool) → five null rising pending small zero ≡ Ok tt →
    (null ≡ true) × (rising ≡ true) × (pending ≡ true) × (small ≡ true) × (zero ≡ true)
five-parts false b c d e h = let no : Err NoNull ≡ Ok tt = h in cc
five-parts true false c d e h = let no : Err Order ≡ Ok tt = h in cc
five-parts true true false d e h = let no : Err AfterNull ≡ Ok tt = h in cc
five-parts true true true false e h = let no : Err Backoff ≡ Ok tt = h in cc
five-parts true true true true false h = let no : Err FirstOffset ≡ Ok tt = h in cc
five-parts true true true true true h = (refl, refl, refl, refl, refl)

null-from : (o : Option MapElement) → is_null o ≡ true →
    (null : MapElement) × (o ≡ Some null) × (null.sid ≡ 0)
null-from None h = let no : false ≡ true = h in cc
null-from (Some null) h = (null, refl, eqb-true null.sid 0 h)

rising-up-to : (es : List MapElement) (null : MapElement) → end_of es ≡ Some null → rises_to_end es ≡ true →
    IsRising (offsets (before_end es) ++ null.offset ∷ [])
unfolding rises_to_end
rising-up-to es null ends h =
    let tested : rises (before_end es ++ null ∷ []) ≡ true = rw ends at h in
    let rising : IsRising (offsets (before_end es ++ null ∷ [])) =
    rising-from (before_end es ++ null ∷ []) tested in
    rw (map-append (λ e. e.offset) (before_end es) (null ∷ [])) at rising

pending-after : (es : List MapElement) (null : MapElement) → end_of es ≡ Some null →
    ends_in_pendings es ≡ true →
    AllByRecursion (λ e. (e.iuc ≢ codes.null) × (e.offset ≡ null.offset)) (after_end es)
unfolding ends_in_pendings are_pending_after
pending-after es null ends h =
    let tested : list_all (is_pending null.offset) (after_end es) ≡ true = rw ends at h in
    pending-from null.offset (after_end es) tested

list-from : (es : List MapElement) (null : MapElement) → end_of es ≡ Some null → null.sid ≡ 0 →
    rises_to_end es ≡ true → ends_in_pendings es ≡ true → IsElementList es
list-from es null ends zero rising pending =
    let is : null ≡ null_at null.offset =
    ap (λ s. record { sid = s; iuc = null.iuc; offset = null.offset }) zero ∙
    ap (λ i. record { sid = 0; iuc = i; offset = null.offset }) (null-ends_list es null ends) in
    record {
      before = before_end es;
      len = null.offset;
      after = after_end es;
      joined = split es null ends ∙ ap (λ n. before_end es ++ n ∷ after_end es) is;
      others = others-before es;
      rising = rising-up-to es null ends rising;
      pending = pending-after es null ends pending;
    }

pub found : (h : Head) (es : List MapElement) → list_fault h es ≡ Ok tt → Found h es
unfolding list_fault parts_fault
found h es e =
    let all : (is_null (end_of es) ≡ true) × (rises_to_end es ≡ true) × (ends_in_pendings es ≡ true) ×
    (list_all is_backoff h.backoffs ≡ true) × (starts_at_zero es ≡ true) =
    five-parts (is_null (end_of es)) (rises_to_end es) (ends_in_pendings es) (list_all is_backoff h.backoffs)
    (starts_at_zero es) e in
    let ends : (null : MapElement) × (end_of es ≡ Some null) × (null.sid ≡ 0) = null-from (end_of es) all.0 in
    record {
      list = list-from es ends.0 ends.1 ends.2 all.1 all.2;
      first = zero-from es all.4;
      backoffs = backoffs-from h.backoffs all.3;
    }

-- a MAP of a head whose fields are in range and of elements without a fault
pub lawful : (h : Head) (es : List MapElement) →
    h.channel < 2 ^ 8 → h.ucd_count < 2 ^ 8 → h.alloc_start < 2 ^ 32 → h.ack < 2 ^ 32 → length h.backoffs ≡ 4 →
    length es ≤ max_elements → AllByRecursion IsMapElement es → list_fault h es ≡ Ok tt →
    IsMapBody (record { head = h; elements = es })
lawful h es channel ucd_count alloc_start ack four few fields e =
    let f : Found h es = found h es e in
    record {
      head = record {
        channel = channel;
        ucd_count = ucd_count;
        alloc_start = alloc_start;
        ack = ack;
        four = four;
        backoffs = f.backoffs;
      };
      few = few;
      fields = fields;
      list = f.list;
      first = f.first;
    }

-- From the grammar to the tests.

abbrev pub Others : List MapElement → Type 0
Others es = AllByRecursion (λ e. e.iuc ≢ codes.null) es

-- no element ends the list
pub others-from : (es : List MapElement) → is_some (end_of es) ≡ false → Others es
unfolding end_of
others-from [] h = tt
others-from (e ∷ es) h = elim (cases_Bool (ends_list e)) [
  | inl t ↦ let no : true ≡ false = rw t at h in cc
  | inr f ↦ (eqb-false e.iuc codes.null f, others-from es (rw f at h))
]

-- the list of some parts ends where they say
pub null-joined : (before : List MapElement) (len : ℕ) (after : List MapElement) → Others before →
    end_of (before ++ null_at len ∷ after) ≡ Some (null_at len)
unfolding end_of
null-joined [] len after h = refl
null-joined (e ∷ es) len after h = rw (ne_eqb e.iuc codes.null h.0) (null-joined es len after h.1)

pub before-joined : (before : List MapElement) (len : ℕ) (after : List MapElement) → Others before →
    before_end (before ++ null_at len ∷ after) ≡ before
unfolding before_end
before-joined [] len after h = refl
before-joined (e ∷ es) len after h =
    rw (ne_eqb e.iuc codes.null h.0) (ap (λ xs. e ∷ xs) (before-joined es len after h.1))

pub after-joined : (before : List MapElement) (len : ℕ) (after : List MapElement) → Others before →
    after_end (before ++ null_at len ∷ after) ≡ after
unfolding after_end
after-joined [] len after h = refl
after-joined (e ∷ es) len after h = rw (ne_eqb e.iuc codes.null h.0) (after-joined es len after h.1)

rises-to : (es : List MapElement) → IsRising (offsets es) → rises es ≡ true
unfolding rises
rises-to [] h = refl
rises-to (e ∷ []) h = refl
rises-to (e ∷ f ∷ es) h =
    and_from (nat_lt e.offset f.offset) (rises (f ∷ es)) (lt-ltb e.offset f.offset h.0) (rises-to (f ∷ es) h.1)

pending-to : (len : ℕ) (es : List MapElement) →
    AllByRecursion (λ e. (e.iuc ≢ codes.null) × (e.offset ≡ len)) es →
    list_all (is_pending len) es ≡ true
pending-to len [] h = refl
pending-to len (e ∷ es) h =
    and_from (is_pending len e) (list_all (is_pending len) es)
    (and_from (not (ends_list e)) (eqb e.offset len)
    (not_from_false (ends_list e) (ne_eqb e.iuc codes.null h.0.0)) (eq-eqb e.offset len h.0.1))
    (pending-to len es h.1)

backoffs-to : (bs : List ℕ) → AllByRecursion (λ backoff. backoff ≤ 15) bs → list_all is_backoff bs ≡ true
backoffs-to [] h = refl
backoffs-to (b ∷ bs) h =
    and_from (is_backoff b) (list_all is_backoff bs) (le-leb b 15 h.0) (backoffs-to bs h.1)

zero-to : (es : List MapElement) → StartsAtZero es → starts_at_zero es ≡ true
unfolding starts_at_zero
zero-to [] h = refl
zero-to (e ∷ es) h = eq-eqb e.offset 0 h

rising-joined : (before : List MapElement) (len : ℕ) (after : List MapElement) → Others before →
    IsRising (offsets before ++ len ∷ []) → rises_to_end (before ++ null_at len ∷ after) ≡ true
unfolding rises_to_end
rising-joined before len after others rising =
    let offsets-rise : IsRising (offsets (before ++ null_at len ∷ [])) =
    rw (map-append (λ e. e.offset) before (null_at len ∷ [])) rising in
    rw (null-joined before len after others, before-joined before len after others)
    (rises-to (before ++ null_at len ∷ []) offsets-rise)

pending-joined : (before : List MapElement) (len : ℕ) (after : List MapElement) → Others before →
    AllByRecursion (λ e. (e.iuc ≢ codes.null) × (e.offset ≡ len)) after →
    ends_in_pendings (before ++ null_at len ∷ after) ≡ true
unfolding ends_in_pendings are_pending_after
pending-joined before len after others pending =
    rw (null-joined before len after others, after-joined before len after others)
    (pending-to len after pending)

five-passed : (null rising pending small zero : Bool) →
    null ≡ true → rising ≡ true → pending ≡ true → small ≡ true → zero ≡ true →
    five null rising pending small zero ≡ Ok tt
five-passed null rising pending small zero a b c d e = rw (a, b, c, d, e) refl

-- a lawful list has no fault
pub faultless : (h : Head) (es : List MapElement) →
    AllByRecursion (λ backoff. backoff ≤ 15) h.backoffs → IsElementList es → StartsAtZero es →
    list_fault h es ≡ Ok tt
unfolding list_fault parts_fault
faultless h es small list zero =
    let null : is_null (end_of es) ≡ true =
    rw (list.joined, null-joined list.before list.len list.after list.others) refl in
    let rising : rises_to_end es ≡ true =
    rw list.joined (rising-joined list.before list.len list.after list.others list.rising) in
    let pending : ends_in_pendings es ≡ true =
    rw list.joined (pending-joined list.before list.len list.after list.others list.pending) in
    five-passed (is_null (end_of es)) (rises_to_end es) (ends_in_pendings es) (list_all is_backoff h.backoffs)
    (starts_at_zero es)
    null rising pending (backoffs-to h.backoffs small) (zero-to es zero)

-- of a list that is joined of parts, the Null isn't looked for
pub joined-fault : (h : Head) (before : List MapElement) (len : ℕ) (after : List MapElement) →
    is_some (end_of before) ≡ false →
    list_fault h (before ++ null_at len ∷ after) ≡ parts_fault h (before ++ null_at len ∷ after)
unfolding list_fault
joined-fault h before len after none = rw (null-joined before len after (others-from before none)) refl

some-from : (o : Option MapElement) → is_some o ≡ true → (null : MapElement) × (o ≡ Some null)
some-from None h = let no : false ≡ true = h in cc
some-from (Some null) h = (null, refl)

-- in a lawful list that is joined of parts, no element before the Null has its IUC: else the Null would be pending
pub none-before : (before : List MapElement) (len : ℕ) (after : List MapElement) →
    IsElementList (before ++ null_at len ∷ after) → is_some (end_of before) ≡ false
unfolding ends_in_pendings are_pending_after
none-before before len after list = elim (cases_Bool (is_some (end_of before))) [
  | inl some ↦
      let first : (null : MapElement) × (end_of before ≡ Some null) = some-from (end_of before) some in
      let test : MapElement → Bool = is_pending first.0.offset in
      let pending : ends_in_pendings (before ++ null_at len ∷ after) ≡ true =
      rw list.joined (pending-joined list.before list.len list.after list.others list.pending) in
      let tested : list_all test (after_end before ++ null_at len ∷ after) ≡ true =
      rw (null-append before (null_at len ∷ after) first.0 first.1, after-append before (null_at len ∷ after) first.0 first.1) at pending in
      let later : list_all test (null_at len ∷ after) ≡ true =
      (and_parts (list_all test (after_end before)) (list_all test (null_at len ∷ after))
      (sym (list_all-append test (after_end before) (null_at len ∷ after)) ∙ tested)).1 in
      let no : false ≡ true = later in
      cc
  | inr none ↦ none
]
