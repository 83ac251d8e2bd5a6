-- What comes of an entry where its first occurrences are settled: the next one and so on, or nothing. Of a silent interval
-- the first one comes alone.
use Rattle.std.proofs.Common.{◌≡◌, ℕ, zero, suc, ◌+◌, ◌-◌, ◌*◌, ◌/◌, ◌%◌, ◌<◌, ◌≤◌, ◌==◌, Bool, true, false, List, [], ◌∷◌, ◌++◌, filter, refl, ap, ap₂, sym, ◌∙◌, inl, inr, eq-eqb, ne_eqb, arith}
use Rattle.std.specs.List.{range_with_len, AllByRecursion}
use Rattle.std.proofs.lemmas.Bool.{cases_lt, cases_Bool, eqb-true}
use Rattle.std.proofs.lemmas.Nat.{div-add-mod', div-mul-add, mod-mul-add}
use Rattle.us_calendar.specs.Entries.{Entry}
use Rattle.us_calendar.specs.Occurrences.{ideal, comes, due, coming}
use Rattle.us_calendar.specs.Settling.{Settlement, closed, left_out}
use Rattle.us_calendar.specs.Kept.{behind}
use Rattle.us_calendar.proofs.IdealLemmas.{HasWindows, ideal-rises}
use Rattle.us_calendar.proofs.DueLemmas.{due-none, due-next, due-all}

-- occurrence `n + j` of the interval in which occurrence `n` is the first

part_of : (e : Entry) (n j : ℕ) → n % e.grants ≡ 0 → n + j ≡ n / e.grants * e.grants + j
part_of e n j begins = let whole = div-add-mod' n e.grants in omega (arith, whole, begins)

same_interval : (e : Entry) (n j : ℕ) → n % e.grants ≡ 0 → j < e.grants → ideal e (n + j) ≡ ideal e n
same_interval e n j begins inside =
    ap (λ i. e.start + i * e.interval) (ap (λ m. m / e.grants) (part_of e n j begins) ∙
    div-mul-add (n / e.grants) e.grants j inside)

place_in : (e : Entry) (n j : ℕ) → n % e.grants ≡ 0 → j < e.grants → (n + j) % e.grants ≡ j
place_in e n j begins inside =
    ap (λ m. m % e.grants) (part_of e n j begins) ∙ mod-mul-add (n / e.grants) e.grants j inside

-- which ones come

module _ (e : Entry) (speaks : ℕ → Bool) where
  pub comes_active : (n : ℕ) → speaks (ideal e n) ≡ true → comes e speaks n ≡ true
  comes_active n active = rw active refl

  pub comes_first : (n : ℕ) → n % e.grants ≡ 0 → comes e speaks n ≡ true
  comes_first n begins = elim (cases_Bool (speaks (ideal e n))) [
    | inl active ↦ comes_active n active
    | inr silent ↦ rw (silent, eq-eqb (n % e.grants) 0 begins) refl
  ]

  pub is_first : (n : ℕ) → comes e speaks n ≡ true → speaks (ideal e n) ≡ false → n % e.grants ≡ 0
  is_first n is silent =
      let begins : (n % e.grants == 0) ≡ true = rw silent at is in eqb-true (n % e.grants) 0 begins

  pub stays_out : (n m : ℕ) → speaks (ideal e n) ≡ false → n % e.grants ≡ 0 → n < m → m < n + e.grants →
      comes e speaks m ≡ false
  stays_out n m silent begins low high =
      let inside : m - n < e.grants = omega arith in
      let is : n + (m - n) ≡ m = omega arith in
      let same : ideal e m ≡ ideal e n = ap (ideal e) (sym is) ∙ same_interval e n (m - n) begins inside in
      let place : m % e.grants ≡ m - n = ap (λ k. k % e.grants) (sym is) ∙ place_in e n (m - n) begins inside in
      rw (ap speaks same ∙ silent, ne_eqb (m % e.grants) 0 (λ none. omega (arith, place, none, low))) refl

  -- so those that an occurrence leaves out don't come,
  pub between : (n m : ℕ) → HasWindows e → comes e speaks n ≡ true → n < m → m < behind e (speaks (ideal e n)) n →
      comes e speaks m ≡ false
  between n m is it low = by (speaks (ideal e n)) refl
    where
      by : (b : Bool) → speaks (ideal e n) ≡ b → m < behind e b n → comes e speaks m ≡ false
      by true active high = absurd (omega (arith, low, high))
      by false silent high = stays_out n m silent (is_first n it silent) low (omega (arith, high, is.grants))

  -- and the one behind them does.
  next_begins : (n : ℕ) → 1 ≤ e.grants → n % e.grants + 1 ≡ e.grants → (n + 1) % e.grants ≡ 0
  next_begins n some last =
      let whole = div-add-mod' n e.grants in
      let more : (n / e.grants + 1) * e.grants ≡ n / e.grants * e.grants + e.grants = grind arith in
      let is : n + 1 ≡ (n / e.grants + 1) * e.grants + 0 = omega (arith, whole, more, last) in
      ap (λ m. m % e.grants) is ∙ mod-mul-add (n / e.grants + 1) e.grants 0 (omega (arith, some))

  next_in : (n : ℕ) → n % e.grants + 1 < e.grants → ideal e (n + 1) ≡ ideal e n
  next_in n inside =
      let whole = div-add-mod' n e.grants in
      let is : n + 1 ≡ n / e.grants * e.grants + (n % e.grants + 1) = omega (arith, whole) in
      ap (λ i. e.start + i * e.interval)
      (ap (λ m. m / e.grants) is ∙ div-mul-add (n / e.grants) e.grants (n % e.grants + 1) inside)

  interval_behind : (n : ℕ) → 1 ≤ e.grants → n % e.grants ≡ 0 → (n + 1 + (e.grants - 1)) % e.grants ≡ 0
  interval_behind n some begins =
      let whole = div-add-mod' n e.grants in
      let more : (n / e.grants + 1) * e.grants ≡ n / e.grants * e.grants + e.grants = grind arith in
      let is : n + 1 + (e.grants - 1) ≡ (n / e.grants + 1) * e.grants + 0 = omega (arith, whole, more, begins, some) in
      ap (λ m. m % e.grants) is ∙ mod-mul-add (n / e.grants + 1) e.grants 0 (omega (arith, some))

  pub comes_behind : (n : ℕ) → HasWindows e → comes e speaks n ≡ true →
      comes e speaks (behind e (speaks (ideal e n)) n) ≡ true
  comes_behind n is it = by (speaks (ideal e n)) refl
    where
      within : n % e.grants < e.grants
      within = omega (arith, is.grants)

      by : (b : Bool) → speaks (ideal e n) ≡ b → comes e speaks (behind e b n) ≡ true
      by true active =
          let here : n + 1 + 0 ≡ n + 1 = omega arith in
          ap (comes e speaks) here ∙ elim (cases_lt (n % e.grants + 1) e.grants) [
            | inl inside ↦ comes_active (n + 1) (ap speaks (next_in n inside) ∙ active)
            | inr last ↦ comes_first (n + 1) (next_begins n is.grants (omega (arith, within, last)))
          ]
      by false silent = comes_first (n + 1 + (e.grants - 1)) (interval_behind n is.grants (is_first n it silent))

-- nothing comes where the next occurrence is ideal later,
pub coming-none : (e : Entry) (speaks : ℕ → Bool) (end n : ℕ) → HasWindows e → end ≤ ideal e n →
    coming e speaks end (range_with_len 0 n) ≡ []
unfolding coming
coming-none e speaks end n is late = ap (filter (comes e speaks)) (due-none e end n is late)

-- one that doesn't come is passed,
pub filter-out : (p : ℕ → Bool) (n : ℕ) (ns : List ℕ) → p n ≡ false → filter p (n ∷ ns) ≡ filter p ns
filter-out p n ns isnt = rw isnt refl

pub filter-in : (p : ℕ → Bool) (n : ℕ) (ns : List ℕ) → p n ≡ true → filter p (n ∷ ns) ≡ n ∷ filter p ns
filter-in p n ns is = rw is refl

coming-pass : (e : Entry) (speaks : ℕ → Bool) (end n : ℕ) → HasWindows e → comes e speaks n ≡ false →
    coming e speaks end (range_with_len 0 n) ≡ coming e speaks end (range_with_len 0 (n + 1))
unfolding coming
coming-pass e speaks end n is out = elim (cases_lt (ideal e n) end) [
  | inl early ↦
      ap (filter (comes e speaks)) (due-next e end n is early) ∙
      filter-out (comes e speaks) n (due e end (range_with_len 0 (n + 1))) out
  | inr late ↦
      let rises = ideal-rises e n (n + 1) is (omega arith) in
      coming-none e speaks end n is late ∙ sym (coming-none e speaks end (n + 1) is (omega (arith, late, rises)))
]

coming-skip : (e : Entry) (speaks : ℕ → Bool) (end k n : ℕ) → HasWindows e →
    ((m : ℕ) → n ≤ m → m < n + k → comes e speaks m ≡ false) →
    coming e speaks end (range_with_len 0 n) ≡ coming e speaks end (range_with_len 0 (n + k))
coming-skip e speaks end zero n is out =
    let same : n ≡ n + zero = omega arith in ap (λ m. coming e speaks end (range_with_len 0 m)) same
coming-skip e speaks end (suc k) n is out =
    let same : n + 1 + k ≡ n + suc k = omega arith in
    coming-pass e speaks end n is (out n (omega arith) (omega arith)) ∙
    coming-skip e speaks end k (n + 1) is (λ m low high. out m (omega (arith, low)) (omega (arith, high))) ∙
    ap (λ m. coming e speaks end (range_with_len 0 m)) same

-- and else the next one comes, and what comes where it and those that it leaves out are settled too
pub coming-next : (e : Entry) (speaks : ℕ → Bool) (end n : ℕ) → HasWindows e → comes e speaks n ≡ true →
    ideal e n < end → coming e speaks end (range_with_len 0 n) ≡
    n ∷ coming e speaks end (range_with_len 0 (behind e (speaks (ideal e n)) n))
unfolding coming
coming-next e speaks end n is it early =
    ap (filter (comes e speaks)) (due-next e end n is early) ∙
    filter-in (comes e speaks) n (due e end (range_with_len 0 (n + 1))) it ∙ ap (λ more. n ∷ more)
    (coming-skip e speaks end (left_out e (speaks (ideal e n))) (n + 1) is
    (λ m low high. between e speaks n m is it (omega (arith, low)) high))

-- whatever comes is no earlier one
pub filter-all : (P : ℕ → Type 0) (p : ℕ → Bool) (ns : List ℕ) → AllByRecursion P ns → AllByRecursion P (filter p ns)
filter-all P p [] all = tt
filter-all P p (n ∷ ns) all = elim (cases_Bool (p n)) [
  | inl t ↦ rw t (all.0, filter-all P p ns all.1)
  | inr f ↦ rw f (filter-all P p ns all.1)
]

pub coming-all : (e : Entry) (speaks : ℕ → Bool) (end n : ℕ) →
    AllByRecursion (λ m. (n ≤ m) × (ideal e m < end)) (coming e speaks end (range_with_len 0 n))
unfolding coming
coming-all e speaks end n =
    filter-all (λ m. (n ≤ m) × (ideal e m < end)) (comes e speaks) (due e end (range_with_len 0 n)) (due-all e end n)

-- what is settled then are the first ones

pub range-plus : (from a b at total : ℕ) → at ≡ from + a → total ≡ a + b →
    range_with_len from total ≡ range_with_len from a ++ range_with_len at b
range-plus from zero b at total at_is total_is = ap₂ range_with_len (omega (arith, at_is)) (omega (arith, total_is))
range-plus from (suc a) b at zero at_is total_is = absurd (omega (arith, total_is))
range-plus from (suc a) b at (suc total) at_is total_is =
    ap (λ more. from ∷ more) (range-plus (from + 1) a b at total (omega (arith, at_is)) (omega (arith, total_is)))

pub range-closed : (e : Entry) (m : Settlement) (n : ℕ) → m.number ≡ n →
    range_with_len 0 n ++ closed e m ≡ range_with_len 0 (behind e m.active n)
range-closed e m n same =
    ap (λ k. range_with_len 0 n ++ (k ∷ range_with_len (k + 1) (left_out e m.active))) same ∙
    sym (range-plus 0 n (suc (left_out e m.active)) n (behind e m.active n) (omega arith) (omega arith))
