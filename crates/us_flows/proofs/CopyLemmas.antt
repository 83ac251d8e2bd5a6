-- Of a list whose items are apart, each is apart from those before it.
use Rattle.std.proofs.Common.{◌≡◌, ◌≢◌, ℕ, ◌+◌, ◌<◌, ◌==◌, Bool, true, false, List, [], ◌∷◌, ◌++◌, length, map, take, drop, get_or, flat_map, refl, sym, ap, ap₂, ◌∙◌, subst, inl, inr}
use Rattle.std.specs.List.{AllByRecursion, list_any}
use Rattle.std.proofs.lemmas.Bool.{cases_Bool, and_parts, eqb-true}
use Rattle.std.proofs.lemmas.List.{map-append, take-append-drop, drop_more}
use Rattle.std.proofs.lemmas.Grind.{flat_map-append}
use Rattle.us_flows.specs.Tables.{FlowTable, sids_of}
use Rattle.us_flows.specs.Lawful.{AreApart}
use Rattle.us_flows.specs.Checks.{has_flow, is_taken, repeats, same_sid}

all_right : {A : Type 0} (P : A → Type 0) (xs ys : List A) → AllByRecursion P (xs ++ ys) → AllByRecursion P ys
all_right P [] ys h = h
all_right P (x ∷ xs) ys h = all_right P xs ys h.1

all_left : {A : Type 0} (P : A → Type 0) (xs ys : List A) → AllByRecursion P (xs ++ ys) → AllByRecursion P xs
all_left P [] ys h = tt
all_left P (x ∷ xs) ys h = (h.0, all_left P xs ys h.1)

apart_right : {A : Type 0} (xs ys : List A) → AreApart (xs ++ ys) → AreApart ys
apart_right [] ys h = h
apart_right (x ∷ xs) ys h = apart_right xs ys h.1

apart_left : {A : Type 0} (xs ys : List A) → AreApart (xs ++ ys) → AreApart xs
apart_left [] ys h = tt
apart_left (x ∷ xs) ys h = (all_left (λ y. x ≢ y) xs ys h.0, apart_left xs ys h.1)

no_earlier : {A : Type 0} (ys : List A) → AllByRecursion (λ y. AllByRecursion (λ x. y ≢ x) []) ys
no_earlier [] = tt
no_earlier (y ∷ ys) = (tt, no_earlier ys)

one_earlier : {A : Type 0} (x : A) (xs ys : List A) → AllByRecursion (λ y. x ≢ y) ys →
    AllByRecursion (λ y. AllByRecursion (λ z. y ≢ z) xs) ys → AllByRecursion (λ y. AllByRecursion (λ z. y ≢ z) (x ∷ xs)) ys
one_earlier x xs [] first others = tt
one_earlier x xs (y ∷ ys) first others =
    ((λ same. first.0 (sym same), others.0), one_earlier x xs ys first.1 others.1)

-- the items of the second part are apart from those of the first
crossed : {A : Type 0} (xs ys : List A) → AreApart (xs ++ ys) → AllByRecursion (λ y. AllByRecursion (λ x. y ≢ x) xs) ys
crossed [] ys h = no_earlier ys
crossed (x ∷ xs) ys h = one_earlier x xs ys (all_right (λ y. x ≢ y) xs ys h.0) (crossed xs ys h.1)

-- as tests say it

module _ {A : Type 0} (same : A → A → Bool) (equal : (a b : A) → same a b ≡ true → a ≡ b) where
  none_same : (x : A) (ys : List A) → AllByRecursion (λ y. x ≢ y) ys → list_any (same x) ys ≡ false
  none_same x [] h = refl
  none_same x (y ∷ ys) h = elim (cases_Bool (same x y)) [
    | inl t ↦ absurd (h.0 (equal x y t))
    | inr f ↦ rw f (none_same x ys h.1)
  ]

  never_twice : (xs : List A) → AreApart xs → repeats same xs ≡ false
  never_twice [] h = refl
  never_twice (x ∷ xs) h = rw (none_same x xs h.0) (never_twice xs h.1)

  none_taken : (xs ys : List A) → AllByRecursion (λ y. AllByRecursion (λ x. y ≢ x) xs) ys →
      list_any (λ y. list_any (same y) xs) ys ≡ false
  none_taken xs [] h = refl
  none_taken xs (y ∷ ys) h = rw (none_same y xs h.0) (none_taken xs ys h.1)

-- keys

split : {X : Type 0} (xs : List X) (i : ℕ) (d : X) → i < length xs →
    take i xs ++ get_or xs i d ∷ drop (i + 1) xs ≡ xs
split xs i d within = ap (λ rest. take i xs ++ rest) (sym (drop_more xs i d within)) ∙ take-append-drop i xs

no_key : {X : Type 0} (key : X → ℕ) (id : ℕ) (xs : List X) → AllByRecursion (λ k. id ≢ k) (map key xs) →
    list_any (λ x. key x == id) xs ≡ false
no_key key id [] h = refl
no_key key id (x ∷ xs) h = elim (cases_Bool (key x == id)) [
  | inl t ↦ absurd (h.0 (sym (eqb-true (key x) id t)))
  | inr f ↦ rw f (no_key key id xs h.1)
]

key_is_new : {X : Type 0} (key : X → ℕ) (xs : List X) (i : ℕ) (d : X) → i < length xs →
    AreApart (map key xs) → list_any (λ x. key x == key (get_or xs i d)) (take i xs) ≡ false
key_is_new {X} key xs i d within apart =
    let rest : List X = get_or xs i d ∷ drop (i + 1) xs in
    let parts : AreApart (map key (take i xs) ++ map key rest) =
    subst AreApart (ap (map key) (sym (split xs i d within)) ∙ map-append key (take i xs) rest) apart in
    no_key key (key (get_or xs i d)) (take i xs) (crossed (map key (take i xs)) (map key rest) parts).0

-- the key of the item at a place is none of those before it
pub new_key : {X : Type 0} (key : X → ℕ) (copy xs : List X) (i : ℕ) (item d : X) → copy ≡ take i xs →
    item ≡ get_or xs i d → i < length xs → AreApart (map key xs) → list_any (λ x. key x == key item) copy ≡ false
new_key key copy xs i item d copied is within apart =
    ap₂ (λ before x. list_any (λ y. key y == key x) before) copied is ∙ key_is_new key xs i d within apart

-- SIDs

equal_sids : (a b : ℕ × ℕ) → same_sid a b ≡ true → a ≡ b
equal_sids a b h =
    let parts = and_parts (a.0 == b.0) (a.1 == b.1) h in
    ap₂ (λ channel sid. (channel, sid)) (eqb-true a.0 b.0 parts.0) (eqb-true a.1 b.1 parts.1)

-- a flow may be put behind these others
pub record MayFollow (earlier : List FlowTable) (flow : FlowTable) : Type 0 where
  pub id : has_flow earlier flow.id ≡ false
  pub sids : list_any (is_taken earlier) (sids_of flow) ≡ false
  pub apart : repeats same_sid (sids_of flow) ≡ false

pub may_follow : (copy flows : List FlowTable) (i : ℕ) (flow d : FlowTable) → copy ≡ take i flows →
    flow ≡ get_or flows i d → i < length flows → AreApart (map (λ flow. flow.id) flows) →
    AreApart (flat_map sids_of flows) → MayFollow copy flow
may_follow copy flows i flow d copied is within ids apart =
    let earlier : List (ℕ × ℕ) = flat_map sids_of copy in
    let later : List (ℕ × ℕ) = flat_map sids_of (drop (i + 1) flows) in
    let whole : flows ≡ copy ++ flow ∷ drop (i + 1) flows =
    sym (split flows i d within) ∙ ap₂ (λ before x. before ++ x ∷ drop (i + 1) flows) (sym copied) (sym is) in
    let parts : AreApart (earlier ++ (sids_of flow ++ later)) =
    subst AreApart (ap (flat_map sids_of) whole ∙ flat_map-append sids_of copy (flow ∷ drop (i + 1) flows)) apart in
    let own : AreApart (sids_of flow) = apart_left (sids_of flow) later (apart_right earlier (sids_of flow ++ later) parts) in
    let others = all_left (λ y. AllByRecursion (λ x. y ≢ x) earlier) (sids_of flow) later
    (crossed earlier (sids_of flow ++ later) parts) in
    record {
      id = new_key (λ flow. flow.id) copy flows i flow d copied is within ids;
      sids = none_taken same_sid equal_sids earlier (sids_of flow) others;
      apart = never_twice same_sid equal_sids (sids_of flow) own;
    }
