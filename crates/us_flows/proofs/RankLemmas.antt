-- A list that is sorted by a number stands as `in_order` says: at each place the item that so many others are below.
use Rattle.std.proofs.Common.{◌≡◌, ℕ, ◌+◌, ◌<◌, ◌≤◌, List, [], ◌∷◌, ◌++◌, length, map, filter, flat_map, count_by, Bool, true, false, cond, ◌==◌, ltb, eqb, zero, suc, refl, sym, ap, ap₂, ◌∙◌, inl, inr, ◌⊎◌, IsPermutation, nat_cmp, Less, Equal, Greater, ne_eqb, eq-eqb, lt-ltb, le-ltb, arith}
use Rattle.std.specs.Bool.{⊤}
use Rattle.std.specs.List.{AllByRecursion, range_with_len, IsDistinct}
use Rattle.std.specs.List.Sorted.{IsNonDecreasing, IsStrictlySortedBy}
use Rattle.std.proofs.lemmas.Bool.{cases_Bool, cases_order, cases_eq}
use Rattle.std.proofs.lemmas.List.Recursion.{is_count_by}
use Rattle.std.proofs.lemmas.List.Sums.{length-filter}
use Rattle.std.proofs.lemmas.List.Elements.{filter_passes, All-filter, All-from_recursion, recursion_from_All}
use Rattle.std.proofs.lemmas.List.Sorted.{sum_by-IsPermutation, length_permutation, All-permutation, IsPermutation-map, IsPermutation-sym}
use Rattle.std.proofs.lemmas.Map.Keys.{IsDistinct-IsPermutation, IsStrictlyIncreasing-from_distinct, sorted_from_strictly_increasing, sorted_head, sorted_tail}
use Rattle.std.specs.Cmp.{nat_eq_equiv}

-- a comparison, and what it says
pub order_of : (x y : ℕ) →
    ((x < y) × (nat_cmp x y ≡ Less)) ⊎ (((x ≡ y) × (nat_cmp x y ≡ Equal)) ⊎ ((y < x) × (nat_cmp x y ≡ Greater)))
order_of x y = elim (cases_order x y) [
  | inl e ↦ inr (inl (e, rw (le-ltb x y (omega (arith, e)), eq-eqb x y e) refl))
  | inr other ↦ elim other [
    | inl l ↦ inl (l, rw (lt-ltb x y l) refl)
    | inr l ↦ inr (inr (l, rw (le-ltb x y (omega (arith, l)), ne_eqb x y (λ e. omega (arith, l, e))) refl))
  ]
]

less_is : (x y : ℕ) → nat_cmp x y ≡ Less → x < y
less_is x y h = elim (order_of x y) [
  | inl l ↦ l.0
  | inr other ↦ elim other [
    | inl e ↦ let no : Equal ≡ Less = sym e.1 ∙ h in cc
    | inr l ↦ let no : Greater ≡ Less = sym l.1 ∙ h in cc
  ]
]

pub all_map : {X Y : Type 0} (P : Y → Type 0) (Q : X → Type 0) (f : X → Y) → ((x : X) → P (f x) → Q x) → (xs : List X) →
    AllByRecursion P (map f xs) → AllByRecursion Q xs
all_map P Q f each [] h = tt
all_map P Q f each (x ∷ xs) h = (each x h.0, all_map P Q f each xs h.1)

pub all_more : {X : Type 0} (P Q : X → Type 0) → ((x : X) → P x → Q x) → (xs : List X) → AllByRecursion P xs →
    AllByRecursion Q xs
all_more P Q each [] h = tt
all_more P Q each (x ∷ xs) h = (each x h.0, all_more P Q each xs h.1)

-- picking by place

abbrev Ranked : {X : Type 0} → (X → ℕ) → ℕ → List X → Type 0
Ranked rank place [] = ⊤
Ranked rank place (x ∷ xs) = (rank x ≡ place) × Ranked rank (place + 1) xs

module _ {X : Type 0} (rank : X → ℕ) where
  pick_none : (place i : ℕ) (xs : List X) → Ranked rank place xs → i < place → filter (λ x. rank x == i) xs ≡ []
  pick_none place i [] h below = refl
  pick_none place i (x ∷ xs) h below =
      rw (ne_eqb (rank x) i (λ e. omega (arith, e, h.0, below)))
      (pick_none (place + 1) i xs h.1 (omega (arith, below)))

  pick_few : (place i : ℕ) (xs : List X) → Ranked rank place xs → length (filter (λ x. rank x == i) xs) ≤ 1
  pick_few place i [] h = omega arith
  pick_few place i (x ∷ xs) h = elim (cases_eq (rank x) i) [
    | inl e ↦
        let none = ap length (pick_none (place + 1) i xs h.1 (omega (arith, e, h.0))) in
        rw (eq-eqb (rank x) i e) (omega (arith, none))
    | inr n ↦ rw (ne_eqb (rank x) i n) (pick_few (place + 1) i xs h.1)
  ]

range_same : {X : Type 0} (f g : ℕ → List X) (from n : ℕ) → ((i : ℕ) → from ≤ i → f i ≡ g i) →
    flat_map f (range_with_len from n) ≡ flat_map g (range_with_len from n)
range_same f g from zero same = refl
range_same f g from (suc n) same =
    ap₂ (λ a b. a ++ b) (same from (omega arith)) (range_same f g (from + 1) n (λ i l. same i (omega (arith, l))))

pick_all : {X : Type 0} (rank : X → ℕ) (place : ℕ) (xs : List X) → Ranked rank place xs →
    flat_map (λ i. filter (λ x. rank x == i) xs) (range_with_len place (length xs)) ≡ xs
pick_all rank place [] h = refl
pick_all {X} rank place (x ∷ xs) h =
    let first : filter (λ y. rank y == place) (x ∷ xs) ≡ x ∷ [] =
    rw (eq-eqb (rank x) place h.0)
    (ap (λ more. x ∷ more) (pick_none rank (place + 1) place xs h.1 (omega arith))) in
    let others = range_same (λ i. filter (λ y. rank y == i) (x ∷ xs)) (λ i. filter (λ y. rank y == i) xs) (place + 1)
    (length xs) (λ i l. rw (ne_eqb (rank x) i (λ e. omega (arith, e, l, h.0))) refl) in
    ap₂ (λ a b. a ++ b) first (others ∙ pick_all rank (place + 1) xs h.1)

-- how many are below

module _ {X : Type 0} (n : X → ℕ) where
  abbrev below : List X → X → ℕ
  below [] x = 0
  below (y ∷ ys) x = cond (ltb (n y) (n x)) (1 + below ys x) (below ys x)

  below-count : (x : X) (xs : List X) → below xs x ≡ count_by (λ y. ltb (n y) (n x)) xs
  below-count x xs = is_count_by (λ ys. below ys x) (λ y. ltb (n y) (n x)) refl (λ _ _. refl) xs

  abbrev Rises : List X → Type 0
  Rises [] = ⊤
  Rises (x ∷ xs) = AllByRecursion (λ y. n x < n y) xs × Rises xs

  rises_from : (xs : List X) → IsStrictlySortedBy nat_cmp (map n xs) → Rises xs
  rises_from [] h = tt
  rises_from (x ∷ xs) h = (
    all_map (λ y. nat_cmp (n x) y ≡ Less) (λ y. n x < n y) n (λ y less. less_is (n x) (n y) less) xs
        (sorted_head nat_cmp (n x) (map n xs) h),
    rises_from xs (sorted_tail nat_cmp (n x) (map n xs) h),
  )

  none_below : (x : X) (xs : List X) → AllByRecursion (λ y. n x < n y) xs → below xs x ≡ 0
  none_below x [] h = refl
  none_below x (y ∷ ys) h = rw (le-ltb (n y) (n x) (omega (arith, h.0))) (none_below x ys h.1)

  one_more : (x : X) (all : List X) (place : ℕ) (xs : List X) → AllByRecursion (λ y. n x < n y) xs →
      Ranked (below all) place xs → Ranked (below (x ∷ all)) (place + 1) xs
  one_more x all place [] above h = tt
  one_more x all place (y ∷ ys) above h = (
    rw (lt-ltb (n x) (n y) above.0) (omega (arith, h.0)),
    one_more x all (place + 1) ys above.1 h.1,
  )

  ranked : (xs : List X) → Rises xs → Ranked (below xs) 0 xs
  ranked [] h = tt
  ranked (x ∷ xs) h = (
    rw (le-ltb (n x) (n x) (omega arith)) (none_below x xs h.0),
    one_more x xs 0 xs h.0 (ranked xs h.1),
  )

-- the same item is picked, however the items are moved

module _ {X : Type 0} (passes : X → Bool) where
  none_pass : (xs : List X) → filter passes xs ≡ [] → AllByRecursion (λ x. passes x ≡ false) xs
  none_pass [] h = tt
  none_pass (x ∷ xs) h = elim (cases_Bool (passes x)) [
    | inl t ↦ let no : x ∷ filter passes xs ≡ [] = rw t at h in cc
    | inr f ↦ (f, none_pass xs (rw f at h))
  ]

  only : (it : X) (xs : List X) → filter passes xs ≡ it ∷ [] → AllByRecursion (λ x. passes x ≡ true → x ≡ it) xs
  only it [] h = tt
  only it (x ∷ xs) h = elim (cases_Bool (passes x)) [
    | inl t ↦
        let list : x ∷ filter passes xs ≡ it ∷ [] = rw t at h in
        let same : x ≡ it = cc in
        let none : filter passes xs ≡ [] = cc in (
          λ _. same,
          all_more (λ y. passes y ≡ false) (λ y. passes y ≡ true → y ≡ it)
              (λ y f t. let no : false ≡ true = sym f ∙ t in cc) xs (none_pass xs none),
        )
    | inr f ↦ (λ t. let no : false ≡ true = sym f ∙ t in cc, only it xs (rw f at h))
  ]

  same_pick : (xs ys : List X) → IsPermutation xs ys → length (filter passes ys) ≤ 1 →
      filter passes xs ≡ filter passes ys
  same_pick xs ys moved few =
      let counts : length (filter passes xs) ≡ length (filter passes ys) =
      length-filter passes xs ∙ sym (sum_by-IsPermutation (λ x. cond (passes x) 1 0) xs ys moved) ∙
      sym (length-filter passes ys) in
      by (filter passes xs) (filter passes ys) counts few
      (λ it one.
      let among = All-from_recursion (λ x. passes x ≡ true → x ≡ it) ys (only it ys one) in
      let moved_back = All-permutation (λ x. passes x ≡ true → x ≡ it) ys xs
      (IsPermutation-sym xs ys moved) among in
      recursion_from_All (λ x. passes x ≡ true → x ≡ it) (filter passes xs)
      (All-filter passes (λ x. passes x ≡ true → x ≡ it) xs moved_back))
      (recursion_from_All (λ x. passes x ≡ true) (filter passes xs) (filter_passes passes xs)) refl
    where
      by : (picked others : List X) → length picked ≡ length others → length others ≤ 1 →
          ((it : X) → filter passes ys ≡ it ∷ [] → AllByRecursion (λ x. passes x ≡ true → x ≡ it) picked) →
          AllByRecursion (λ x. passes x ≡ true) picked → filter passes ys ≡ others → picked ≡ others
      by [] [] long few same pass is = refl
      by [] (o ∷ os) long few same pass is = absurd (omega (arith, long))
      by (p ∷ ps) [] long few same pass is = absurd (omega (arith, long))
      by (p ∷ q ∷ ps) (o ∷ []) long few same pass is = absurd (omega (arith, long))
      by (p ∷ ps) (o ∷ v ∷ os) long few same pass is = absurd (omega (arith, few))
      by (p ∷ []) (o ∷ []) long few same pass is = ap (λ x. x ∷ []) ((same o is).0 pass.0)

filter_among : {X : Type 0} (p q : X → Bool) (xs : List X) → AllByRecursion (λ x. p x ≡ q x) xs →
    filter p xs ≡ filter q xs
filter_among p q [] h = refl
filter_among p q (x ∷ xs) h = ap₂ (λ b more. cond b (x ∷ more) more) h.0 (filter_among p q xs h.1)

count_among : {X : Type 0} (p q : X → Bool) (xs : List X) → AllByRecursion (λ x. p x ≡ q x) xs →
    count_by p xs ≡ count_by q xs
count_among p q xs h = sym (length-filter p xs) ∙ ap length (filter_among p q xs h) ∙ length-filter q xs

-- `before` is to be below in number
pub sorted-in_place : {X : Type 0} (before : X → X → Bool) (n : X → ℕ) (xs ys : List X) →
    AllByRecursion (λ x. AllByRecursion (λ y. before y x ≡ ltb (n y) (n x)) xs) xs →
    IsDistinct eqb (map n xs) → IsPermutation xs ys → IsNonDecreasing (map n ys) →
    flat_map (λ place. filter (λ x. count_by (λ y. before y x) xs == place) xs) (range_with_len 0 (length xs)) ≡ ys
sorted-in_place {X} before n xs ys same apart moved rises =
    let keys = IsPermutation-map n xs ys moved in
    let still_apart = IsDistinct-IsPermutation eqb (λ x y. nat_eq_equiv.symm x y) (map n xs) (map n ys) keys apart in
    let strictly = sorted_from_strictly_increasing (map n ys) (IsStrictlyIncreasing-from_distinct (map n ys) rises
    still_apart) in
    let ranks = ranked n ys (rises_from n ys strictly) in
    let counts : (x : X) → count_by (λ y. ltb (n y) (n x)) xs ≡ below n ys x =
    λ x. sym (below-count n x ys ∙ sum_by-IsPermutation (λ y. cond (ltb (n y) (n x)) 1 0) xs ys moved) in
    let each : (place : ℕ) → 0 ≤ place →
    filter (λ x. count_by (λ y. before y x) xs == place) xs ≡ filter (λ x. below n ys x == place) ys =
    λ place _.
    filter_among (λ x. count_by (λ y. before y x) xs == place) (λ x. below n ys x == place) xs
    (all_more (λ x. AllByRecursion (λ y. before y x ≡ ltb (n y) (n x)) xs)
    (λ x. (count_by (λ y. before y x) xs == place) ≡ (below n ys x == place))
    (λ x h. ap (λ c. c == place) (count_among (λ y. before y x) (λ y. ltb (n y) (n x)) xs h ∙ counts x)) xs same) ∙
    same_pick (λ x. below n ys x == place) xs ys moved (pick_few (below n ys) 0 place ys ranks) in
    let long : length xs ≡ length ys = sym (length_permutation xs ys moved) in
    range_same (λ place. filter (λ x. count_by (λ y. before y x) xs == place) xs)
    (λ place. filter (λ x. below n ys x == place) ys) 0 (length xs) each ∙ ap
    (λ m. flat_map (λ place. filter (λ x. below n ys x == place) ys) (range_with_len 0 m)) long ∙
    pick_all (below n ys) 0 ys ranks
