-- Lists without repeats, and entries that are put behind one another.
use Rattle.std.proofs.Common.{◌≡◌, List, [], ◌∷◌, ◌++◌, length, zip, Bool, true, false, ◌&&◌, ◌||◌, is_some, refl, sym, ap, ap₂, ◌∙◌, inl, inr, ◌⊎◌, append_assoc, append-nil, arith}
use Rattle.std.specs.Cmp.{nat_eq_equiv, IsEquivalence}
use Rattle.std.specs.List.{list_any}
use Rattle.std.specs.Option.{option_or}
use Rattle.std.specs.Map.{lookup, keys_of}
use Rattle.std.proofs.lemmas.Bool.{cases_Bool, or_parts, or_from, and_parts}
use Rattle.std.proofs.lemmas.List.{map-append}
use Rattle.std.proofs.lemmas.List.Folds.{list_any-append}
use Rattle.indexmap.specs.IndexMap.{insert_entry, insert_all}
use Rattle.us_flows.specs.Checks.{same_sid, repeats}

pub same_sid-equivalence : IsEquivalence same_sid
same_sid-equivalence = record {
  refl = λ x. ap₂ (λ a b. a && b) (nat_eq_equiv.refl x.0) (nat_eq_equiv.refl x.1);
  symm = λ x y. ap₂ (λ a b. a && b) (nat_eq_equiv.symm x.0 y.0) (nat_eq_equiv.symm x.1 y.1);
  congr = λ x y z h.
      let parts = and_parts _ _ h in
      ap₂ (λ a b. a && b) (nat_eq_equiv.congr x.0 y.0 z.0 parts.0) (nat_eq_equiv.congr x.1 y.1 z.1 parts.1);
}

pub zip-none : {X Y : Type 0} (xs : List X) (ys : List Y) → (length xs ≡ 0) ⊎ (length ys ≡ 0) → zip xs ys ≡ []
zip-none [] ys h = refl
zip-none (x ∷ xs) [] h = refl
zip-none (x ∷ xs) (y ∷ ys) (inl h) = absurd (omega (arith, h))
zip-none (x ∷ xs) (y ∷ ys) (inr h) = absurd (omega (arith, h))

pub list_any-same : {X : Type 0} (p q : X → Bool) → ((x : X) → p x ≡ q x) → (xs : List X) →
    list_any p xs ≡ list_any q xs
list_any-same p q same [] = refl
list_any-same p q same (x ∷ xs) = ap₂ (λ a b. a || b) (same x) (list_any-same p q same xs)

pub lookup-append : {K X : Type 0} (test : K → Bool) (es fs : List (K × X)) →
    lookup test (es ++ fs) ≡ option_or (lookup test es) (lookup test fs)
lookup-append test [] fs = refl
lookup-append test (e ∷ es) fs = elim (cases_Bool (test e.0)) [
  | inl t ↦ rw t refl
  | inr f ↦ rw f (lookup-append test es fs)
]

pub is_some-lookup : {K X : Type 0} (test : K → Bool) (es : List (K × X)) →
    is_some (lookup test es) ≡ list_any test (keys_of es)
is_some-lookup test [] = refl
is_some-lookup test (e ∷ es) = elim (cases_Bool (test e.0)) [
  | inl t ↦ rw t refl
  | inr f ↦ rw f (is_some-lookup test es)
]

module _ {K : Type 0} (eq : K → K → Bool) (is : IsEquivalence eq) where
  -- what follows in a list isn't before it
  not_before : (ks : List K) (k : K) (more : List K) → repeats eq (ks ++ k ∷ more) ≡ false → list_any (eq k) ks ≡
      false
  not_before [] k more h = refl
  not_before (x ∷ ks) k more h =
      let parts = or_parts (list_any (eq x) (ks ++ k ∷ more)) (repeats eq (ks ++ k ∷ more)) h in
      let both = list_any-append (eq x) ks (k ∷ more) in
      let split = or_parts (list_any (eq x) ks) (list_any (eq x) (k ∷ more)) (sym both ∙ parts.0) in
      let one = or_parts (eq x k) (list_any (eq x) more) split.1 in
      or_from (eq k x) (list_any (eq k) ks) (is.symm k x ∙ one.0) (not_before ks k more parts.1)

  none_among : (x : K) (ks more : List K) → list_any (λ k. list_any (eq k) (x ∷ ks)) more ≡ false →
      (list_any (eq x) more ≡ false) × (list_any (λ k. list_any (eq k) ks) more ≡ false)
  none_among x ks [] h = (refl, refl)
  none_among x ks (k ∷ more) h =
      let parts = or_parts (eq k x || list_any (eq k) ks) (list_any (λ j. list_any (eq j) (x ∷ ks)) more) h in
      let one = or_parts (eq k x) (list_any (eq k) ks) parts.0 in
      let rest = none_among x ks more parts.1 in (
        or_from (eq x k) (list_any (eq x) more) (is.symm x k ∙ one.0) rest.0,
        or_from (list_any (eq k) ks) (list_any (λ j. list_any (eq j) ks) more) one.1 rest.1,
      )

  -- two lists that have nothing in common
  pub repeats-append : (ks more : List K) → repeats eq ks ≡ false →
      list_any (λ k. list_any (eq k) ks) more ≡ false → repeats eq more ≡ false → repeats eq (ks ++ more) ≡ false
  repeats-append [] more own none rest = rest
  repeats-append (x ∷ ks) more own none rest =
      let parts = or_parts (list_any (eq x) ks) (repeats eq ks) own in
      let among = none_among x ks more none in
      let behind = list_any-append (eq x) ks more ∙ or_from (list_any (eq x) ks) (list_any (eq x) more)
      parts.0 among.0 in
      or_from (list_any (eq x) (ks ++ more)) (repeats eq (ks ++ more)) behind
      (repeats-append ks more parts.1 among.1 rest)

  -- what is in one part of such a list isn't in the next
  pub not_again : (ks more : List K) (k : K) → repeats eq (ks ++ more) ≡ false → list_any (eq k) ks ≡ true →
      list_any (eq k) more ≡ false
  not_again [] more k apart there = let no : false ≡ true = there in cc
  not_again (x ∷ ks) more k apart there =
      let parts = or_parts (list_any (eq x) (ks ++ more)) (repeats eq (ks ++ more)) apart in
      elim (cases_Bool (eq k x)) [
        | inl t ↦
            let both = list_any-append (eq x) ks more in
            let split = or_parts (list_any (eq x) ks) (list_any (eq x) more) (sym both ∙ parts.0) in
            list_any-same (eq k) (eq x) (λ z. is.congr k x z t) more ∙ split.1
        | inr f ↦ not_again ks more k parts.1 (rw f at there)
      ]

  pub repeats-behind : (ks more : List K) → repeats eq (ks ++ more) ≡ false → repeats eq more ≡ false
  repeats-behind [] more h = h
  repeats-behind (x ∷ ks) more h =
      repeats-behind ks more (or_parts (list_any (eq x) (ks ++ more)) (repeats eq (ks ++ more)) h).1

  module _ {X : Type 0} where
    insert_last : (es : List (K × X)) (k : K) (v : X) → list_any (eq k) (keys_of es) ≡ false →
        insert_entry eq es k v ≡ es ++ (k, v) ∷ []
    insert_last [] k v h = refl
    insert_last (e ∷ es) k v h =
        let parts = or_parts (eq k e.0) (list_any (eq k) (keys_of es)) h in
        rw parts.0 (ap (λ more. e ∷ more) (insert_last es k v parts.1))

    -- entries whose keys are apart go behind one another
    pub insert-apart : (es more : List (K × X)) → repeats eq (keys_of es ++ keys_of more) ≡ false →
        insert_all eq es more ≡ es ++ more
    insert-apart es [] h = sym (append-nil es)
    insert-apart es (e ∷ more) h =
        let last = insert_last es e.0 e.1 (not_before (keys_of es) e.0 (keys_of more) h) in
        let keys = map-append (λ entry. entry.0) es (e ∷ []) in
        let moved = ap (λ ks. ks ++ keys_of more) keys ∙ append_assoc (keys_of es) (e.0 ∷ []) (keys_of more) in
        let rest = insert-apart (es ++ e ∷ []) more (ap (repeats eq) moved ∙ h) in
        ap (λ done. insert_all eq done more) last ∙ rest ∙ append_assoc es (e ∷ []) more
