-- Items that are among others.
use Rattle.std.proofs.Common.{◌≡◌, ◌⊎◌, ◌≤◌, Bool, true, List, [], ◌∷◌, ◌++◌, length, map, refl, sym, ap, subst, inl, inr, arith}
use Rattle.std.specs.Prelude.{filter, count_by}
use Rattle.std.specs.List.{AllByRecursion, list_all, list_any}
use Rattle.std.proofs.lemmas.List.Sums.{length-filter}
use Rattle.std.proofs.lemmas.Bool.{cases_Bool, and_parts, or_cases, or_right}

abbrev pub Among : {X : Type 0} → X → List X → Type 0
Among x [] = ⊥
Among x (y ∷ ys) = (x ≡ y) ⊎ Among x ys

pub each_from_among : {X : Type 0} (P : X → Type 0) (xs : List X) → ((x : X) → Among x xs → P x) → AllByRecursion P xs
each_from_among P [] all = tt
each_from_among P (x ∷ xs) all = (all x (inl refl), each_from_among P xs (λ y among. all y (inr among)))

pub among_each : {X : Type 0} (P : X → Type 0) (xs : List X) (x : X) → AllByRecursion P xs → Among x xs → P x
among_each P [] x all never = absurd never
among_each P (y ∷ ys) x all (inl is) = subst P (sym is) all.0
among_each P (y ∷ ys) x all (inr later) = among_each P ys x all.1 later

-- Filters, maps, lists one behind another.

pub among_filter : {X : Type 0} (test : X → Bool) (xs : List X) (x : X) → Among x (filter test xs) →
    Among x xs × (test x ≡ true)
among_filter test [] x never = absurd never
among_filter test (y ∷ ys) x among = elim (cases_Bool (test y)) [
  | inl passes ↦ elim (rw passes at among) [
    | inl is ↦ (inl is, subst (λ z. test z ≡ true) (sym is) passes)
    | inr later ↦
        let more = among_filter test ys x later in
        (inr more.0, more.1)
  ]
  | inr fails ↦
      let more = among_filter test ys x (rw fails at among) in
      (inr more.0, more.1)
]

pub filter_among : {X : Type 0} (test : X → Bool) (xs : List X) (x : X) → Among x xs → test x ≡ true →
    Among x (filter test xs)
filter_among test [] x never passes = absurd never
filter_among test (y ∷ ys) x (inl is) passes =
    let here : test y ≡ true = subst (λ z. test z ≡ true) is passes in
    rw here (inl is)
filter_among test (y ∷ ys) x (inr later) passes = elim (cases_Bool (test y)) [
  | inl here ↦ rw here (inr (filter_among test ys x later passes))
  | inr skip ↦ rw skip (filter_among test ys x later passes)
]

pub map_among : {X Y : Type 0} (f : X → Y) (xs : List X) (x : X) → Among x xs → Among (f x) (map f xs)
map_among f [] x never = absurd never
map_among f (y ∷ ys) x (inl is) = inl (ap f is)
map_among f (y ∷ ys) x (inr later) = inr (map_among f ys x later)

pub behind_among : {X : Type 0} (front xs : List X) (x : X) → Among x xs → Among x (front ++ xs)
behind_among [] xs x among = among
behind_among (y ∷ front) xs x among = inr (behind_among front xs x among)

-- Tests.

pub among_any : {X : Type 0} (test : X → Bool) (xs : List X) → list_any test xs ≡ true →
    (x : X) × Among x xs × (test x ≡ true)
among_any test [] some = absurd (cc some)
among_any test (x ∷ xs) some = elim (or_cases (test x) (list_any test xs) some) [
  | inl here ↦ (x, inl refl, here)
  | inr later ↦
      let found = among_any test xs later in
      (found.0, inr found.1, found.2)
]

pub any_among : {X : Type 0} (test : X → Bool) (xs : List X) (x : X) → Among x xs → test x ≡ true →
    list_any test xs ≡ true
any_among test [] x never passes = absurd never
any_among test (y ∷ ys) x (inl is) passes =
    let here : test y ≡ true = subst (λ z. test z ≡ true) is passes in
    rw here refl
any_among test (y ∷ ys) x (inr later) passes =
    or_right (test y) (list_any test ys) (any_among test ys x later passes)

pub all_among : {X : Type 0} (test : X → Bool) (xs : List X) (x : X) → list_all test xs ≡ true → Among x xs →
    test x ≡ true
all_among test [] x all never = absurd never
all_among test (y ∷ ys) x all (inl is) =
    subst (λ z. test z ≡ true) (sym is) (and_parts (test y) (list_all test ys) all).0
all_among test (y ∷ ys) x all (inr later) =
    all_among test ys x (and_parts (test y) (list_all test ys) all).1 later

-- Counts.

alike : {X : Type 0} (xs : List X) (x y : X) → length xs ≤ 1 → Among x xs → Among y xs → x ≡ y
alike [] x y few never there = absurd never
alike (z ∷ []) x y few (inl here) (inl there) = cc
alike (z ∷ []) x y few (inr never) there = absurd never
alike (z ∷ []) x y few (inl here) (inr never) = absurd never
alike (z ∷ w ∷ zs) x y few here there = absurd (omega (arith, few))

-- where one item passes a test, two that do are the same
pub one_passes : {X : Type 0} (test : X → Bool) (xs : List X) (x y : X) → count_by test xs ≤ 1 → Among x xs →
    Among y xs → test x ≡ true → test y ≡ true → x ≡ y
one_passes test xs x y few here there is_x is_y =
    alike (filter test xs) x y (omega (arith, few, length-filter test xs)) (filter_among test xs x here is_x)
    (filter_among test xs y there is_y)
