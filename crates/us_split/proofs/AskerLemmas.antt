-- The list of those who ask: what each step does to it.
use Rattle.std.proofs.Common.{◌≡◌, ◌≢◌, ℕ, zero, suc, ◌+◌, ◌<◌, ◌≤◌, Bool, true, false, List, [], ◌∷◌, length, get_or, filter, Some, None, slice_get, refl, sym, ap, ◌∙◌, inl, inr, lt-ltb, le-ltb, arith}
use Rattle.std.specs.Prelude.{slice_index}
use Rattle.std.specs.List.{AllByRecursion, insert}
use Rattle.std.specs.List.Sorted.{IsNonDecreasing}
use Rattle.std.proofs.lemmas.Bool.{cases_Bool}
use Rattle.us_split.specs.Asking.{places_from}
use Rattle.us_split.specs.Askers.{AreOnce, IsPartedAt, put_in}

-- Places rise, and are below their number.

rises-cons : (x : ℕ) (xs : List ℕ) → AllByRecursion (λ y. x ≤ y) xs → IsNonDecreasing xs → IsNonDecreasing (x ∷ xs)
rises-cons x xs low rises zero zero d first inside = omega arith
rises-cons x xs low rises zero (suc j) d first inside = each xs low j (omega (arith, inside))
  where
    each : (ys : List ℕ) → AllByRecursion (λ y. x ≤ y) ys → (k : ℕ) → k < length ys → x ≤ get_or ys k d
    each [] all k below = absurd (omega (arith, below))
    each (y ∷ ys) all zero below = all.0
    each (y ∷ ys) all (suc k) below = each ys all.1 k (omega (arith, below))
rises-cons x xs low rises (suc i) zero d first inside = absurd (omega (arith, first))
rises-cons x xs low rises (suc i) (suc j) d first inside = rises i j d (omega (arith, first)) (omega (arith, inside))

all-weaker : (P Q : ℕ → Type 0) → ((x : ℕ) → P x → Q x) → (xs : List ℕ) → AllByRecursion P xs → AllByRecursion Q xs
all-weaker P Q then [] all = tt
all-weaker P Q then (x ∷ xs) all = (then x all.0, all-weaker P Q then xs all.1)

module _ (passes : ℕ → Bool) where
  places-from : (place : ℕ) (numbers : List ℕ) → AllByRecursion (λ at. place ≤ at) (places_from passes place numbers)
  unfolding places_from
  places-from place [] = tt
  places-from place (n ∷ numbers) =
      let later = all-weaker (λ at. place + 1 ≤ at) (λ at. place ≤ at) (λ at high. omega (arith, high))
      (places_from passes (place + 1) numbers) (places-from (place + 1) numbers) in
      elim (cases_Bool (passes n)) [
        | inl t ↦ let here : place ≤ place = omega arith in rw t (here, later)
        | inr f ↦ rw f later
      ]

  pub places-rise : (place : ℕ) (numbers : List ℕ) → IsNonDecreasing (places_from passes place numbers)
  unfolding places_from
  places-rise place [] = λ i j d first inside. omega (arith, inside)
  places-rise place (n ∷ numbers) =
      let rest = places-rise (place + 1) numbers in
      let later = all-weaker (λ at. place + 1 ≤ at) (λ at. place ≤ at) (λ at high. omega (arith, high))
      (places_from passes (place + 1) numbers) (places-from (place + 1) numbers) in
      elim (cases_Bool (passes n)) [
        | inl t ↦ rw t (rises-cons place (places_from passes (place + 1) numbers) later rest)
        | inr f ↦ rw f rest
      ]

  pub places-below : (place most : ℕ) (numbers : List ℕ) → place + length numbers ≤ most →
      AllByRecursion (λ at. at < most) (places_from passes place numbers)
  unfolding places_from
  places-below place most [] few = tt
  places-below place most (n ∷ numbers) few =
      let rest = places-below (place + 1) most numbers (omega (arith, few)) in
      elim (cases_Bool (passes n)) [
        | inl t ↦ let here : place < most = omega (arith, few) in rw t (here, rest)
        | inr f ↦ rw f rest
      ]

  pub places-few : (place : ℕ) (numbers : List ℕ) → length (places_from passes place numbers) ≤ length numbers
  unfolding places_from
  places-few place [] = omega arith
  places-few place (n ∷ numbers) = elim (cases_Bool (passes n)) [
    | inl t ↦ rw t (omega (arith, places-few (place + 1) numbers))
    | inr f ↦ rw f (omega (arith, places-few (place + 1) numbers))
  ]

  -- and fewer where a number doesn't pass
  pub places-fewer : (place k number : ℕ) (numbers : List ℕ) → slice_get numbers k ≡ Some number → passes number ≡ false →
      length (places_from passes place numbers) < length numbers
  unfolding places_from
  places-fewer place k number [] at none = let no : None ≡ Some number = at in cc
  places-fewer place zero number (n ∷ numbers) at none =
      let found : Some n ≡ Some number = at in
      let same : n ≡ number = cc in
      rw (ap passes same ∙ none) (omega (arith, places-few (place + 1) numbers))
  places-fewer place (suc k) number (n ∷ numbers) at none =
      let rest = places-fewer (place + 1) k number numbers at none in
      elim (cases_Bool (passes n)) [
        | inl t ↦ rw t (omega (arith, rest))
        | inr f ↦ rw f (omega (arith, rest))
      ]

  -- Of those that pass, fewer may pass a narrower test.

  abbrev IsRest : List ℕ → ℕ → List ℕ → Type 0
  IsRest all place rest = (i : ℕ) → slice_index all (place + i) ≡ slice_index rest i

  rest-later : (all : List ℕ) (place n : ℕ) (rest : List ℕ) → IsRest all place (n ∷ rest) → IsRest all (place + 1) rest
  rest-later all place n rest is i =
      let next : place + 1 + i ≡ place + suc i = omega arith in
      ap (slice_index all) next ∙ is (suc i)

  pub filter-places : (narrow : ℕ → Bool) → ((n : ℕ) → narrow n ≡ true → passes n ≡ true) → (all : List ℕ) (place : ℕ)
      (rest : List ℕ) → IsRest all place rest →
      filter (λ at. narrow (slice_index all at)) (places_from passes place rest) ≡ places_from narrow place rest
  unfolding places_from
  filter-places narrow then all place [] is = refl
  filter-places narrow then all place (n ∷ rest) is =
      let more = filter-places narrow then all (place + 1) rest (rest-later all place n rest is) in
      let start : place ≡ place + 0 = omega arith in
      let here : slice_index all place ≡ n = ap (slice_index all) start ∙ is 0 in
      elim (cases_Bool (passes n)) [
        | inl t ↦ elim (cases_Bool (narrow n)) [
          | inl both ↦ rw (t, both, ap narrow here ∙ both) (ap (λ at. place ∷ at) more)
          | inr one ↦ rw (t, one, ap narrow here ∙ one) more
        ]
        | inr f ↦ elim (cases_Bool (narrow n)) [
          | inl never ↦ let no : false ≡ true = sym f ∙ then n never in cc
          | inr neither ↦ rw (f, neither) more
        ]
      ]

  -- One more may pass.

  put-first : (place : ℕ) (places : List ℕ) → AllByRecursion (λ at. place + 1 ≤ at) places →
      put_in place places ≡ place ∷ places
  put-first place [] high = refl
  put-first place (at ∷ places) high = rw (le-ltb at place (omega (arith, high.0))) refl

  module _ (more : ℕ → Bool) (number : ℕ) (others : (n : ℕ) → n ≢ number → more n ≡ passes n) where
    same-elsewhere : (place : ℕ) (numbers : List ℕ) → ((i : ℕ) → slice_get numbers i ≢ Some number) →
        places_from more place numbers ≡ places_from passes place numbers
    unfolding places_from
    same-elsewhere place [] none = refl
    same-elsewhere place (n ∷ numbers) none =
        let rest = same-elsewhere (place + 1) numbers (λ i. none (suc i)) in
        let here : more n ≡ passes n = others n (λ same. none 0 (ap Some same)) in
        elim (cases_Bool (passes n)) [
          | inl t ↦ rw (here ∙ t, t) (ap (λ at. place ∷ at) rest)
          | inr f ↦ rw (here ∙ f, f) rest
        ]

    pub put-more : (place k : ℕ) (numbers : List ℕ) → passes number ≡ false → more number ≡ true →
        slice_get numbers k ≡ Some number → AreOnce numbers →
        put_in (place + k) (places_from passes place numbers) ≡ places_from more place numbers
    unfolding places_from
    put-more place k [] none some at once = let no : None ≡ Some number = at in cc
    put-more place zero (n ∷ numbers) none some at once =
        let found : Some n ≡ Some number = at in
        let same : n ≡ number = cc in
        let here : place + 0 ≡ place = omega arith in
        let elsewhere : (i : ℕ) → slice_get numbers i ≢ Some number =
        λ i there. (let no : 0 ≡ suc i = once 0 (suc i) number at there in omega (arith, no)) in
        ap (λ p. put_in p (places_from passes place (n ∷ numbers))) here ∙
        rw (ap passes same ∙ none, ap more same ∙ some) (
        put-first place (places_from passes (place + 1) numbers) (places-from (place + 1) numbers) ∙
        ap (λ at. place ∷ at) (sym (same-elsewhere (place + 1) numbers elsewhere))
        )
    put-more place (suc k) (n ∷ numbers) none some at once =
        let next : place + suc k ≡ place + 1 + k = omega arith in
        let later : AreOnce numbers = λ one other m here there.
        (let both : suc one ≡ suc other = once (suc one) (suc other) m here there in omega (arith, both)) in
        let apart : n ≢ number = λ same.
        (let no : 0 ≡ suc k = once 0 (suc k) number (ap Some same) at in omega (arith, no)) in
        let rest = put-more (place + 1) k numbers none some at later in
        let here : more n ≡ passes n = others n apart in
        let low : place < place + 1 + k = omega arith in
        let shifted : put_in (place + 1 + k) (places_from passes place (n ∷ numbers)) ≡ places_from more place (n ∷ numbers) =
        elim (cases_Bool (passes n)) [
          | inl t ↦ rw (here ∙ t, t, lt-ltb place (place + 1 + k) low) (ap (λ at. place ∷ at) rest)
          | inr f ↦ rw (here ∙ f, f) rest
        ] in
        ap (λ p. put_in p (places_from passes place (n ∷ numbers))) next ∙ shifted

-- to insert where places part is to put in
pub insert-parted : (places : List ℕ) (place at : ℕ) → IsPartedAt places place at →
    insert places at place ≡ put_in place places
insert-parted [] place zero parted = refl
insert-parted [] place (suc at) parted = absurd (omega (arith, parted.inside))
insert-parted (x ∷ xs) place zero parted =
    rw (le-ltb x place (parted.above 0 (omega arith) (omega arith))) refl
insert-parted (x ∷ xs) place (suc at) parted =
    rw (lt-ltb x place (parted.below 0 (omega arith))) (ap (λ ys. x ∷ ys) (insert-parted xs place at (record {
      inside = omega (arith, parted.inside);
      below = λ i low. parted.below (suc i) (omega (arith, low));
      above = λ i high inside. parted.above (suc i) (omega (arith, high)) (omega (arith, inside));
    })))
