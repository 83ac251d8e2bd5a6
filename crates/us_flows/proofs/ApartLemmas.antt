-- Lists whose items are apart, as they grow item by item.
use Rattle.std.proofs.Common.{◌≡◌, ◌≢◌, ℕ, ◌==◌, nat_eq, Bool, true, false, List, [], ◌∷◌, ◌++◌, map, flat_map, append_assoc, refl, sym, ◌∙◌, ap, subst}
use Rattle.std.specs.List.{AllByRecursion, list_any}
use Rattle.std.proofs.lemmas.Bool.{or_parts, false≢true, eq-eqb}
use Rattle.std.proofs.lemmas.List.{append-nil, map-append}
use Rattle.std.proofs.lemmas.Grind.{flat_map-append}
use Rattle.us_flows.specs.Tables.{FlowTable, sids_of}
use Rattle.us_flows.specs.Lawful.{AreApart}
use Rattle.us_flows.specs.Checks.{repeats, same_sid, is_taken}

-- One item more.

all_snoc : {A : Type 0} (P : A → Type 0) (xs : List A) (y : A) → AllByRecursion P xs → P y → AllByRecursion P (xs ++ y ∷ [])
all_snoc P [] y all one = (one, tt)
all_snoc P (x ∷ xs) y all one = (all.0, all_snoc P xs y all.1 one)

pub snoc_apart : {A : Type 0} (xs : List A) (y : A) → AreApart xs → AllByRecursion (λ x. x ≢ y) xs → AreApart (xs ++ y ∷ [])
snoc_apart [] y apart other = (tt, tt)
snoc_apart (x ∷ xs) y apart other =
    (all_snoc (λ z. x ≢ z) xs y apart.0 other.0, snoc_apart xs y apart.1 other.1)

-- A list more, of which no item is in the first one.

widen : {A : Type 0} (xs : List A) (y : A) (ys : List A) → AllByRecursion (λ z. y ≢ z) ys →
    AllByRecursion (λ z. AllByRecursion (λ x. x ≢ z) xs) ys →
    AllByRecursion (λ z. AllByRecursion (λ x. x ≢ z) (xs ++ y ∷ [])) ys
widen xs y [] own others = tt
widen xs y (z ∷ zs) own others = (all_snoc (λ x. x ≢ z) xs y others.0 own.0, widen xs y zs own.1 others.1)

pub append_apart : {A : Type 0} (xs ys : List A) → AreApart xs → AreApart ys →
    AllByRecursion (λ y. AllByRecursion (λ x. x ≢ y) xs) ys → AreApart (xs ++ ys)
append_apart xs [] apart own others = rw (append-nil xs) apart
append_apart xs (y ∷ ys) apart own others =
    subst AreApart (append_assoc xs (y ∷ []) ys)
    (append_apart (xs ++ y ∷ []) ys (snoc_apart xs y apart others.0) own.1 (widen xs y ys own.0 others.1))

-- Ids.

itself : (n : ℕ) → (n == n) ≡ true
itself n = eq-eqb n n refl

-- no item has this key
pub other_keys : {A : Type 0} (key : A → ℕ) (xs : List A) (id : ℕ) → list_any (λ x. key x == id) xs ≡ false →
    AllByRecursion (λ k. k ≢ id) (map key xs)
other_keys key [] id h = tt
other_keys key (x ∷ xs) id h =
    let parts = or_parts (key x == id) (list_any (λ x. key x == id) xs) h in
    (λ same. false≢true (sym parts.0 ∙ eq-eqb (key x) id same), other_keys key xs id parts.1)

pub keys_apart : {A : Type 0} (key : A → ℕ) (xs : List A) (y : A) → AreApart (map key xs) →
    list_any (λ x. key x == key y) xs ≡ false → AreApart (map key (xs ++ y ∷ []))
keys_apart key xs y apart none =
    rw (map-append key xs (y ∷ [])) (snoc_apart (map key xs) (key y) apart (other_keys key xs (key y) none))

-- A list without an item that is there twice.

differ : {A : Type 0} (same : A → A → Bool) (x : A) (ys : List A) → ((a : A) → same a a ≡ true) →
    list_any (same x) ys ≡ false → AllByRecursion (λ y. x ≢ y) ys
differ same x [] reflexive h = tt
differ same x (y ∷ ys) reflexive h =
    let parts = or_parts (same x y) (list_any (same x) ys) h in
    (λ equal. false≢true (sym parts.0 ∙ ap (same x) (sym equal) ∙ reflexive x), differ same x ys reflexive parts.1)

pub repeats_apart : {A : Type 0} (same : A → A → Bool) (xs : List A) → ((a : A) → same a a ≡ true) →
    repeats same xs ≡ false → AreApart xs
repeats_apart same [] reflexive h = tt
repeats_apart same (x ∷ xs) reflexive h =
    let parts = or_parts (list_any (same x) xs) (repeats same xs) h in
    (differ same x xs reflexive parts.0, repeats_apart same xs reflexive parts.1)

pub ids_apart : (ids : List ℕ) → repeats nat_eq ids ≡ false → AreApart ids
ids_apart ids h = repeats_apart nat_eq ids itself h

-- SIDs.

same_itself : (sid : ℕ × ℕ) → same_sid sid sid ≡ true
same_itself sid = rw (itself sid.0, itself sid.1) refl

turned : {A : Type 0} (x : A) (ys : List A) → AllByRecursion (λ y. x ≢ y) ys → AllByRecursion (λ y. y ≢ x) ys
turned x [] h = tt
turned x (y ∷ ys) h = (λ same. h.0 (sym same), turned x ys h.1)

others_of : (taken sids : List (ℕ × ℕ)) → list_any (λ sid. list_any (same_sid sid) taken) sids ≡ false →
    AllByRecursion (λ sid. AllByRecursion (λ x. x ≢ sid) taken) sids
others_of taken [] h = tt
others_of taken (sid ∷ sids) h =
    let parts = or_parts (list_any (same_sid sid) taken) (list_any (λ sid. list_any (same_sid sid) taken) sids) h in
    (turned sid taken (differ same_sid sid taken same_itself parts.0), others_of taken sids parts.1)

-- the SIDs of one flow more
pub sids_apart : (earlier : List FlowTable) (flow : FlowTable) → AreApart (flat_map sids_of earlier) →
    list_any (is_taken earlier) (sids_of flow) ≡ false → repeats same_sid (sids_of flow) ≡ false →
    AreApart (flat_map sids_of (earlier ++ flow ∷ []))
sids_apart earlier flow apart none own =
    let all = append_apart (flat_map sids_of earlier) (sids_of flow) apart (repeats_apart same_sid (sids_of flow) same_itself own)
    (others_of (flat_map sids_of earlier) (sids_of flow) none) in
    rw (flat_map-append sids_of earlier (flow ∷ []), append-nil (sids_of flow)) all
