-- One walk over a flow's table finds what the table has at each key.
use Rattle.std.proofs.Common.{◌≡◌, ◌≢◌, ℕ, zero, suc, ◌+◌, ◌<◌, Bool, true, false, not, ◌||◌, if◌then◌else◌, List, [], ◌∷◌, length, get_or, set, Option, Some, None, is_none, is_some, option_map, Ordering, Less, Equal, Greater, nat_cmp, is_eq, refl, ap, sym, ◌∙◌, arith, inl, inr}
use Rattle.std.specs.Borrow.{Bor}
use Rattle.std.specs.Option.{option_or}
use Rattle.std.specs.Str.{bytes_eq}
use Rattle.std.specs.Cmp.{tied_itself}
use Rattle.std.specs.Cmp.Lexicographic.{slice_cmp}
use Rattle.std.specs.Ordering.{match_ordering}
use Rattle.std.proofs.lemmas.Bool.{cases_Bool, cases_eq, false≢true}
use Rattle.std.proofs.lemmas.Cmp.{nat_list_cmp_total}
use Rattle.std.proofs.Math.ListN.{get_or-map}
use Rattle.std.proofs.lemmas.List.{length-set, get_or_default, get_or-set_same, get_or-set_other}
use Rattle.std.proofs.lemmas.Map.Text.{is_eq-slice_cmp}
use Rattle.std.proofs.lemmas.Slice.Eq.{bytes_eq-Decides}
use Rattle.toml.specs.Data.{Data, Members, no_members, member, get_member}
use Rattle.toml.specs.View.{view}
use Rattle.toml.specs.declared.value.Value.{Value}
use Rattle.us_flows.specs.declared.flows.SchedulingType.{SchedulingType}
use Rattle.us_flows.specs.declared.keys.Types.{Types}
use Rattle.us_flows.specs.declared.keys.Rule.{Rule}
use Rattle.us_flows.specs.Keys.{FlowKey, all_flow_keys, flow_keys, keys_of_type, typed_keys_of, has_key}
use Rattle.us_flows.specs.Reading.{kind_at}
use Rattle.us_flows.specs.Shapes.{allows, keeps, strays}
use Rattle.us_flows.specs.KeyValues.{place_from, place_of, name_in, name_at, value_in, AreFound, AreValuesOf}

-- places

-- where a name is found stands a key with that name
pub placed : (at : ℕ) (keys : List FlowKey) (name : List ℕ) (place : ℕ) → place_from at keys name ≡ Some place →
    (i : ℕ) × (place ≡ at + i) × (name_in keys i ≡ name) × (i < length keys)
placed at [] name place is = let no : None ≡ Some place = is in cc
placed at (key ∷ keys) name place is = elim (cases_Bool (bytes_eq key.0 name)) [
  | inl here ↦
      let first : Some at ≡ Some place = rw here at is in
      let same : at ≡ place = cc in
      (0, omega (arith, same), (bytes_eq-Decides key.0 name).0 here, omega arith)
  | inr other ↦
      let more = placed (at + 1) keys name place (rw other at is) in
      (suc more.0, omega (arith, more.1), more.2, omega (arith, more.3))
]

-- so two names have not one place
one_name : (a b : List ℕ) (place : ℕ) → place_of a ≡ Some place → place_of b ≡ Some place → a ≡ b
one_name a b place left right =
    let p = placed 0 all_flow_keys a place left in
    let q = placed 0 all_flow_keys b place right in
    let same : p.0 ≡ q.0 = omega (arith, p.1, q.1) in
    sym p.2 ∙ ap (name_in all_flow_keys) same ∙ q.2

pub own_place : (name : List ℕ) (place : ℕ) → place_of name ≡ Some place → place_of (name_at place) ≡ Some place
own_place name place is =
    let p = placed 0 all_flow_keys name place is in
    let here : name_at place ≡ name = ap (name_in all_flow_keys) (let same : place ≡ p.0 = omega (arith, p.1) in same) ∙ p.2 in
    ap place_of here ∙ is

-- members

get-same : (name : List ℕ) (d : Data) (rest : Members) → get_member name (member name d rest) ≡ Some d
get-same name d rest = rw (tied_itself nat_list_cmp_total name) refl

other-order : (o : Ordering) (d : Data) (rest : Option Data) → is_eq o ≡ false → match_ordering o rest (Some d) rest ≡ rest
other-order Less d rest h = refl
other-order Greater d rest h = refl
other-order Equal d rest h = absurd (false≢true (sym h))

get-other : (other name : List ℕ) (d : Data) (rest : Members) → other ≢ name →
    get_member other (member name d rest) ≡ get_member other rest
get-other other name d rest differ =
    other-order (slice_cmp nat_cmp other name) d (get_member other rest) (elim (cases_Bool (bytes_eq other name)) [
      | inl same ↦ absurd (differ ((bytes_eq-Decides other name).0 same))
      | inr not ↦ is_eq-slice_cmp other name ∙ not
    ])

-- what is found so far: it and the members that are left have what the table has
pub record IsPartFound (values : List (Option (Bor Value))) (rest t : Members) : Type 0 where
  pub count : length values ≡ 17
  pub found : (name : List ℕ) (place : ℕ) → place_of name ≡ Some place →
      option_or (value_in values place) (get_member name rest) ≡ get_member name t
  pub first : (place : ℕ) (d : Data) → value_in values place ≡ Some d → place_of (name_at place) ≡ Some place

pub nothing-found : (values : List (Option (Bor Value))) (t : Members) → length values ≡ 17 →
    ((place : ℕ) → value_in values place ≡ None) → IsPartFound values t t
nothing-found values t count none = record {
  count = count;
  found = λ name place is. rw (none place) refl;
  first = λ place d is. let no : None ≡ Some d = sym (none place) ∙ is in cc;
}

-- a value at a free place
value-set : (values : List (Option (Bor Value))) (value : Bor Value) (place at : ℕ) → place < length values → at ≡ place →
    value_in (set values place (Some value)) at ≡ Some (view value.now)
value-set values value place at within same =
    rw (same, get_or-set_same values place (Some value) None within) refl

value-else : (values : List (Option (Bor Value))) (value : Bor Value) (place at : ℕ) → at ≢ place →
    value_in (set values place (Some value)) at ≡ value_in values at
value-else values value place at other = rw (get_or-set_other values place at (Some value) None other) refl

-- the next member, whose key is listed and was not found before
pub found-here : (values : List (Option (Bor Value))) (value : Bor Value) (name : List ℕ) (rest t : Members) (place : ℕ) →
    place_of name ≡ Some place → place < 17 → get_or values place None ≡ None →
    IsPartFound values (member name (view value.now) rest) t → IsPartFound (set values place (Some value)) rest t
found-here values value name rest t place is inside free part =
    let within : place < length values = omega (arith, part.count, inside) in
    let empty : value_in values place ≡ None = rw free refl in
    record {
      count = length-set values place (Some value) ∙ part.count;
      found = λ other at at-is. elim (cases_eq at place) [
        | inl same ↦
            let one : other ≡ name = one_name other name place (at-is ∙ ap Some same) is in
            let before = part.found name place is in
            rw (one, value-set values value place at within same)
            (rw (empty, get-same name (view value.now) rest) at before)
        | inr differ ↦
            let apart : other ≢ name = λ one. differ (let both : Some at ≡ Some place = sym at-is ∙ ap place_of one ∙ is in cc) in
            let before = part.found other at at-is in
            rw (value-else values value place at differ)
            (rw (get-other other name (view value.now) rest apart) at before)
      ];
      first = λ at d at-is. elim (cases_eq at place) [
        | inl same ↦ rw same (own_place name place is)
        | inr differ ↦ part.first at d (sym (value-else values value place at differ) ∙ at-is)
      ];
    }

some-first : {A : Type 0} (o : Option A) (a b : A) (x y : Option A) → o ≡ Some a → option_or o x ≡ option_or o y
some-first o a b x y is = rw is refl

-- one that was found before is left out
pub found-before : (values : List (Option (Bor Value))) (value old : Bor Value) (name : List ℕ) (rest t : Members)
    (place : ℕ) →
    place_of name ≡ Some place → get_or values place None ≡ Some old →
    IsPartFound values (member name (view value.now) rest) t → IsPartFound values rest t
found-before values value old name rest t place is taken part =
    let there : value_in values place ≡ Some (view old.now) = rw taken refl in
    record {
      count = part.count;
      found = λ other at at-is. elim (cases_eq at place) [
        | inl same ↦
            some-first (value_in values at) (view old.now) (view old.now) (get_member other rest)
            (get_member other (member name (view value.now) rest)) (rw same there) ∙ part.found other at at-is
        | inr differ ↦
            let apart : other ≢ name = λ one. differ (let both : Some at ≡ Some place = sym at-is ∙ ap place_of one ∙ is in cc) in
            let before = part.found other at at-is in
            rw (get-other other name (view value.now) rest apart) at before
      ];
      first = part.first;
    }

-- and so is one whose key isn't listed
pub found-none : (values : List (Option (Bor Value))) (d : Data) (name : List ℕ) (rest t : Members) →
    place_of name ≡ None → IsPartFound values (member name d rest) t → IsPartFound values rest t
found-none values d name rest t is part = record {
  count = part.count;
  found = λ other at at-is.
      let apart : other ≢ name = λ one. (let no : Some at ≡ None = sym at-is ∙ ap place_of one ∙ is in cc) in
      let before = part.found other at at-is in
      rw (get-other other name d rest apart) at before;
  first = part.first;
}

or-none : {A : Type 0} (o : Option A) → option_or o None ≡ o
or-none None = refl
or-none (Some x) = refl

pub all-found : (values : List (Option (Bor Value))) (t : Members) → IsPartFound values no_members t → AreFound values t
all-found values t part = record {
  found = λ name place is. sym (or-none (value_in values place)) ∙ part.found name place is;
  first = part.first;
}

-- what is found is in the table
pub not-lacking-at : (values : List (Option (Bor Value))) (t : Members) (place : ℕ) (d : Data) → AreFound values t →
    value_in values place ≡ Some d → get_member (name_at place) t ≡ Some d
not-lacking-at values t place d are is = sym (are.found (name_at place) place (are.first place d is)) ∙ is

-- the key with a name in a list, first at a place: the rule of its value is the key's
pub allowed-first : (kind : SchedulingType) (at : ℕ) (keys : List FlowKey) (name : List ℕ) (d : Data) (none : FlowKey)
    (i : ℕ) → place_from at keys name ≡ Some (at + i) → has_key (get_or keys i none).1 kind ≡ true →
    allows (keys_of_type kind keys) name d ≡ keeps (get_or keys i none).2 d
allowed-first kind at [] name d none i is has = let no : None ≡ Some (at + i) = is in cc
allowed-first kind at (key ∷ keys) name d none zero is has = elim (cases_Bool (bytes_eq key.0 name)) [
  | inl here ↦ rw (has, here) refl
  | inr other ↦
      let more = placed (at + 1) keys name (at + 0) (rw other at is) in
      absurd (omega (arith, more.1))
]
allowed-first kind at (key ∷ keys) name d none (suc i) is has = elim (cases_Bool (bytes_eq key.0 name)) [
  | inl here ↦
      let no : Some at ≡ Some (at + suc i) = rw here at is in
      let same : at ≡ at + suc i = cc in
      absurd (omega (arith, same))
  | inr other ↦
      let step : at + suc i ≡ at + 1 + i = omega arith in
      let later = allowed-first kind (at + 1) keys name d none i (rw (other, step) at is) has in
      elim (cases_Bool (has_key key.1 kind)) [
        | inl own ↦ rw (own, other) later
        | inr foreign ↦ rw foreign later
      ]
]

-- the same of the keys as the code has them
pub allowed-at : (kind : SchedulingType) (keys : List (Bor (List ℕ) × Types × Rule)) (name : List ℕ) (d : Data)
    (none : Bor (List ℕ) × Types × Rule) (place : ℕ) → typed_keys_of keys ≡ all_flow_keys →
    place_of name ≡ Some place → has_key (get_or keys place none).1 kind ≡ true →
    keeps (get_or keys place none).2 d ≡ allows (flow_keys kind) name d
allowed-at kind keys name d none place are is has =
    let same = get_or-map {B = FlowKey} (λ key. (key.0.now, key.1, key.2)) keys place none in
    let from : place ≡ 0 + place = omega arith in
    let listed : place_from 0 (typed_keys_of keys) name ≡ Some (0 + place) =
    ap (λ all. place_from 0 all name) are ∙ is ∙ ap Some from in
    let allowed = allowed-first kind 0 (typed_keys_of keys) name d (none.0.now, none.1, none.2) place listed (ap (λ key. has_key key.1 kind) same ∙ has) in
    sym (ap (λ all. allows (keys_of_type kind all) name d) (sym are) ∙ allowed ∙ ap (λ key. keeps key.2 d) same)

-- the name of each key as the code has it
named-in : (keys : List (Bor (List ℕ) × Types × Rule)) (none : Bor (List ℕ) × Types × Rule) (i : ℕ) → i < length keys →
    name_in (typed_keys_of keys) i ≡ (get_or keys i none).0.now
named-in [] none i within = absurd (omega (arith, within))
named-in (key ∷ keys) none zero within = refl
named-in (key ∷ keys) none (suc i) within = named-in keys none i (omega (arith, within))

pub named-at : (keys : List (Bor (List ℕ) × Types × Rule)) (none : Bor (List ℕ) × Types × Rule) (place : ℕ) →
    typed_keys_of keys ≡ all_flow_keys → place < length keys → name_at place ≡ (get_or keys place none).0.now
named-at keys none place are within = ap (λ all. name_in all place) (sym are) ∙ named-in keys none place within

pub value-at : (values : List (Option (Bor Value))) (t : Members) (place : ℕ) (value other : Option (Bor Value)) →
    AreFound values t → place < length values → value ≡ get_or values place other →
    place_of (name_at place) ≡ Some place → option_map (λ v. view v.now) value ≡ get_member (name_at place) t
value-at values t place value other are within is first =
    ap (option_map (λ v. view v.now)) (is ∙ get_or_default values place other None within) ∙
    are.found (name_at place) place first

none-of : {A : Type 0} (o : Option A) → is_some o ≡ false → o ≡ None
none-of None is = refl
none-of (Some x) is = absurd (false≢true (sym is))

some-of : {A : Type 0} (o : Option A) → is_some o ≡ true → (x : A) × (o ≡ Some x)
some-of None is = absurd (false≢true is)
some-of (Some x) is = (x, refl)

-- a place that isn't free tells that the table has the key
pub there-at : (values : List (Option (Bor Value))) (t : Members) (place : ℕ) (name : List ℕ)
    (other : Option (Bor Value)) →
    AreFound values t → place < length values → is_some (get_or values place other) ≡ true → name_at place ≡ name →
    is_none (get_member name t) ≡ false
there-at values t place name other are within there named =
    let value = some-of (get_or values place other) there in
    let here : value_in values place ≡ Some (view value.0.now) =
    ap (option_map (λ v. view v.now)) (get_or_default values place None other within ∙ value.1) in
    ap is_none (ap (λ n. get_member n t) (sym named) ∙ not-lacking-at values t place (view value.0.now) are here)

-- a walk's step, by whether the place of its key was free
pub found-step : (values after : List (Option (Bor Value))) (value : Bor Value) (name : List ℕ) (rest t : Members)
    (place : ℕ) (other : Option (Bor Value)) (free : Bool) → place_of name ≡ Some place → place < 17 →
    is_some (get_or values place other) ≡ not free → after ≡ (if free then set values place (Some value) else values) →
    IsPartFound values (member name (view value.now) rest) t → IsPartFound after rest t
found-step values after value name rest t place other true is inside here put part =
    let within : place < length values = omega (arith, part.count, inside) in
    let empty = get_or_default values place None other within ∙ none-of (get_or values place other) here in
    rw put (found-here values value name rest t place is inside empty part)
found-step values after value name rest t place other false is inside here put part =
    let within : place < length values = omega (arith, part.count, inside) in
    let old = some-of (get_or values place other) here in
    let taken : get_or values place None ≡ Some old.0 = get_or_default values place None other within ∙ old.1 in
    rw put (found-before values value old.0 name rest t place is taken part)

-- a name that isn't listed
not-allowed : (kind : SchedulingType) (at : ℕ) (keys : List FlowKey) (name : List ℕ) (d : Data) →
    place_from at keys name ≡ None → allows (keys_of_type kind keys) name d ≡ false
not-allowed kind at [] name d is = refl
not-allowed kind at (key ∷ keys) name d is = elim (cases_Bool (bytes_eq key.0 name)) [
  | inl here ↦ let no : Some at ≡ None = rw here at is in cc
  | inr other ↦
      let later = not-allowed kind (at + 1) keys name d (rw other at is) in
      elim (cases_Bool (has_key key.1 kind)) [
        | inl own ↦ rw (own, other) later
        | inr foreign ↦ rw foreign later
      ]
]

or-true : (b : Bool) → (b || true) ≡ true
or-true true = refl
or-true false = refl

or-false : (b : Bool) → (b || false) ≡ b
or-false true = refl
or-false false = refl

pub strayed : (kind : SchedulingType) (stray all : Bool) (name : List ℕ) (d : Data) (rest : Members) →
    place_of name ≡ None → (stray || strays (flow_keys kind) (member name d rest)) ≡ all → true ≡ all
strayed kind stray all name d rest is tells =
    sym (or-true stray) ∙ ap (λ b. stray || b) (sym (let no : strays (flow_keys kind) (member name d rest) ≡ true =
    rw (not-allowed kind 0 all_flow_keys name d is) refl in no)) ∙ tells

-- the whole walk
pub walked : (kind : SchedulingType) (values : List (Option (Bor Value))) (stray : Bool) (t : Members) →
    kind ≡ kind_at t → IsPartFound values no_members t → (stray || false) ≡ strays (flow_keys kind) t →
    AreValuesOf kind values stray t
walked kind values stray t typed part tells = record {
  typed = typed;
  found = all-found values t part;
  strays = sym (or-false stray) ∙ tells ∙ ap (λ k. strays (flow_keys k) t) typed;
}
