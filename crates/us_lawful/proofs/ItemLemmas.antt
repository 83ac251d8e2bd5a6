-- Items of lists: what holds of each, and which of them pass.
use Rattle.std.proofs.Common.{◌≡◌, ℕ, zero, suc, ◌+◌, ◌<◌, ◌≤◌, Bool, true, false, List, [], ◌∷◌, length, map, cond, Contains, IsPermutation, Option, Some, None, IfSome, refl, ap, ap₂, ◌∙◌, arith, inl, inr}
use Rattle.std.specs.Prelude.{filter, filter_map, find, count_by, slice_get, sum_by}
use Rattle.std.specs.List.{AllByRecursion, cons_option, list_any, range_with_len}
use Rattle.std.proofs.lemmas.Bool.{cases_Bool, false≢true, or_left, or_right}
use Rattle.std.proofs.lemmas.List.{nil_from_length}
use Rattle.std.proofs.lemmas.List.Elements.{All-from_recursion, recursion_from_All}
use Rattle.std.proofs.lemmas.List.Sorted.{All-permutation}
use Rattle.std.proofs.lemmas.List.Sums.{length-filter, sum_by-cons}

-- Each.

-- what holds of each number holds of all in a range
pub all_in_range : (P : ℕ → Type 0) (from n : ℕ) → ((i : ℕ) → i < from + n → P i) → AllByRecursion P (range_with_len from n)
all_in_range P from zero each = tt
all_in_range P from (suc n) each =
    (each from (omega arith), all_in_range P (from + 1) n (λ i inside. each i (omega (arith, inside))))

-- what holds of any item holds of each of these
pub of_each : {X : Type 0} (P : X → Type 0) (xs : List X) → ((x : X) → P x) → AllByRecursion P xs
of_each P [] each = tt
of_each P (x ∷ xs) each = (each x, of_each P xs each)

-- nothing is added where each adds nothing
pub sum_zero : {X : Type 0} (f : X → ℕ) (xs : List X) → ((x : X) → f x ≡ 0) → sum_by f xs ≡ 0
sum_zero f [] none = refl
sum_zero f (x ∷ xs) none = omega (arith, sum_by-cons f x xs, none x, sum_zero f xs none)

-- of a sum of nothing each part is nothing
pub part_of_none : {X : Type 0} (f : X → ℕ) (xs : List X) (place : ℕ) (x : X) → sum_by f xs ≡ 0 →
    slice_get xs place ≡ Some x → f x ≡ 0
part_of_none f [] place x none at = absurd (cc at)
part_of_none f (y ∷ xs) zero x none at =
    let same : y ≡ x = cc in
    omega (arith, none, sum_by-cons f y xs, ap f same)
part_of_none f (y ∷ xs) (suc place) x none at =
    part_of_none f xs place x (omega (arith, none, sum_by-cons f y xs)) at

-- no more is added where each adds no more
pub sum_most : {X : Type 0} (f g : X → ℕ) (xs : List X) → ((x : X) → f x ≤ g x) → sum_by f xs ≤ sum_by g xs
sum_most f g [] few = omega arith
sum_most f g (x ∷ xs) few = omega (arith, sum_by-cons f x xs, sum_by-cons g x xs, few x, sum_most f g xs few)

-- two functions that agree at each make the same of a list
pub map_same : {X Y : Type 0} (f g : X → Y) (xs : List X) → AllByRecursion (λ x. f x ≡ g x) xs → map f xs ≡ map g xs
map_same f g [] same = refl
map_same f g (x ∷ xs) same = ap₂ (λ y ys. y ∷ ys) same.0 (map_same f g xs same.1)

-- What passes.

-- where one at a place does, one does
pub any_placed : {X : Type 0} (p : X → Bool) (xs : List X) (place : ℕ) (x : X) → slice_get xs place ≡ Some x → p x ≡ true →
    list_any p xs ≡ true
any_placed p [] place x at is = absurd (cc at)
any_placed p (y ∷ xs) zero x at is =
    let same : y ≡ x = cc in
    or_left (p y) (list_any p xs) (ap p same ∙ is)
any_placed p (y ∷ xs) (suc place) x at is = or_right (p y) (list_any p xs) (any_placed p xs place x at is)

-- of what is made of others
pub filter_mapped : {X Y : Type 0} (p : Y → Bool) (f : X → Y) (xs : List X) →
    filter p (map f xs) ≡ map f (filter (λ x. p (f x)) xs)
filter_mapped p f [] = refl
filter_mapped p f (x ∷ xs) = elim (cases_Bool (p (f x))) [
  | inl is ↦ rw is (ap (λ more. f x ∷ more) (filter_mapped p f xs))
  | inr out ↦ rw out (filter_mapped p f xs)
]

-- by two tests that agree at each
pub filter_same : {X : Type 0} (p q : X → Bool) (xs : List X) → AllByRecursion (λ x. p x ≡ q x) xs →
    filter p xs ≡ filter q xs
filter_same p q [] same = refl
filter_same p q (x ∷ xs) same = elim (cases_Bool (q x)) [
  | inl is ↦ rw (same.0, is) (ap (λ more. x ∷ more) (filter_same p q xs same.1))
  | inr out ↦ rw (same.0, out) (filter_same p q xs same.1)
]

-- one that passes is counted
count_this : {X : Type 0} (p : X → Bool) (x : X) (xs : List X) → p x ≡ true → count_by p (x ∷ xs) ≡ 1 + count_by p xs
count_this p x xs is =
    sum_by-cons (λ x. cond {A = ℕ} (p x) 1 0) x xs ∙ ap (λ b. cond {A = ℕ} b 1 0 + count_by p xs) is

-- where none is counted, none passes
pub none_passing : {X : Type 0} (p : X → Bool) (xs : List X) → count_by p xs ≡ 0 → AllByRecursion (λ x. p x ≡ false) xs
none_passing p [] none = tt
none_passing p (x ∷ xs) none =
    let all : count_by p (x ∷ xs) ≡ cond {A = ℕ} (p x) 1 0 + count_by p xs = sum_by-cons (λ x. cond (p x) 1 0) x xs in
    elim (cases_Bool (p x)) [
      | inl is ↦
          let one : cond {A = ℕ} (p x) 1 0 ≡ 1 = rw is refl in
          absurd (omega (arith, all, one, none))
      | inr out ↦ (out, none_passing p xs (omega (arith, all, none)))
    ]

-- one that is counted stands at a place
pub some_counted : {X : Type 0} (p : X → Bool) (xs : List X) → 1 ≤ count_by p xs →
    (place : ℕ) × (x : X) × (slice_get xs place ≡ Some x) × (p x ≡ true)
some_counted p [] some = absurd (omega (arith, some))
some_counted p (x ∷ xs) some =
    let all : count_by p (x ∷ xs) ≡ cond {A = ℕ} (p x) 1 0 + count_by p xs = sum_by-cons (λ x. cond (p x) 1 0) x xs in
    elim (cases_Bool (p x)) [
      | inl is ↦ (0, x, refl, is)
      | inr out ↦
          let none : cond {A = ℕ} (p x) 1 0 ≡ 0 = rw out refl in
          let more = some_counted p xs (omega (arith, some, all, none)) in
          (suc more.0, more.1, more.2, more.3)
    ]

-- where one passes at most, one that does is all that does
pub one_passes : {X : Type 0} (p : X → Bool) (xs : List X) (place : ℕ) (x : X) → slice_get xs place ≡ Some x →
    p x ≡ true → count_by p xs ≤ 1 → filter p xs ≡ x ∷ []
one_passes p [] place x at is once = absurd (cc at)
one_passes p (y ∷ xs) zero x at is once =
    let same : y ≡ x = cc in
    let passes : p y ≡ true = ap p same ∙ is in
    let none : length (filter p xs) ≡ 0 = omega (arith, once, count_this p y xs passes, length-filter p xs) in
    rw passes (ap₂ (λ z zs. z ∷ zs) same (nil_from_length (filter p xs) none))
one_passes p (y ∷ xs) (suc place) x at is once =
    let rest : filter p xs ≡ x ∷ [] =
    one_passes p xs place x at is (omega (arith, once, sum_by-cons (λ x. cond {A = ℕ} (p x) 1 0) y xs)) in
    elim (cases_Bool (p y)) [
      | inl also ↦ absurd (omega (arith, once, count_this p y xs also, length-filter p xs, ap length rest))
      | inr out ↦ rw out rest
    ]

-- what is found passes, and what holds of all holds of it
pub record IsFound {X : Type 0} (p : X → Bool) (P : X → Type 0) (xs : List X) : Type 0 where
  pub item : X
  pub found : find p xs ≡ Some item
  pub passes : p item ≡ true
  pub holds : P item

pub find_some : {X : Type 0} (p : X → Bool) (P : X → Type 0) (xs : List X) → AllByRecursion P xs → list_any p xs ≡ true →
    IsFound p P xs
find_some p P [] all some = absurd (false≢true some)
find_some p P (x ∷ xs) all some = elim (cases_Bool (p x)) [
  | inl is ↦ record { item = x; found = rw is refl; passes = is; holds = all.0 }
  | inr out ↦
      let more = find_some p P xs all.1 (rw out at some) in
      record { item = more.item; found = rw out (more.found); passes = more.passes; holds = more.holds }
]

-- What is made of others, of some of them.

-- what holds of all that is made holds of all that there is
with_made : {Y : Type 0} (P : Y → Type 0) (one : Option Y) (more : List Y) → IfSome one P → AllByRecursion P more →
    AllByRecursion P (cons_option one more)
with_made P None more is all = all
with_made P (Some y) more is all = (is, all)

pub all_made : {X Y : Type 0} (P : Y → Type 0) (h : X → Option Y) (xs : List X) → AllByRecursion (λ x. IfSome (h x) P) xs →
    AllByRecursion P (filter_map h xs)
all_made P h [] each = tt
all_made P h (x ∷ xs) each = with_made P (h x) (filter_map h xs) each.0 (all_made P h xs each.1)

still_there : {Y : Type 0} (one : Option Y) (more : List Y) (y : Y) → Contains more y → Contains (cons_option one more) y
still_there None more y has = has
still_there (Some first) more y has = (suc has.0, omega (arith, has.1), has.2)

pub made_there : {X Y : Type 0} (h : X → Option Y) (xs : List X) (place : ℕ) (x : X) (y : Y) → slice_get xs place ≡ Some x →
    h x ≡ Some y → Contains (filter_map h xs) y
made_there h [] place x y at is = absurd (cc at)
made_there h (z ∷ xs) zero x y at is =
    let same : z ≡ x = cc in
    let first : h z ≡ Some y = ap h same ∙ is in
    rw first (0, omega arith, refl)
made_there h (z ∷ xs) (suc place) x y at is =
    still_there (h z) (filter_map h xs) y (made_there h xs place x y at is)

-- What is put in another order.

pub moved_all : {X : Type 0} (P : X → Type 0) (xs ys : List X) → IsPermutation xs ys → AllByRecursion P xs →
    AllByRecursion P ys
moved_all P xs ys moved all = recursion_from_All P ys (All-permutation P xs ys moved (All-from_recursion P xs all))
