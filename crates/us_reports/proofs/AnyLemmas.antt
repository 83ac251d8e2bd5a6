-- What fails of some item of a list: of lists that are made of others, and as tests over lists.
use Rattle.std.proofs.Common.{◌≡◌, ℕ, zero, suc, ◌<◌, Bool, true, false, List, [], ◌∷◌, ◌++◌, map, Option, Some, None, get_or, length, refl, sym, ap, ◌∙◌, inl, inr, arith}
use Rattle.std.specs.Prelude.{◌↔◌, filter, flat_map}
use Rattle.std.specs.List.{list_all, filter_map, cons_option}
use Rattle.std.specs.Option.{option_to_list}
use Rattle.std.proofs.lemmas.Bool.{cases_Bool, false≢true}
use Rattle.us_reports.specs.declared.place.Place.{Place}
use Rattle.us_reports.specs.Breaches.{Any}
use Rattle.us_reports.proofs.BreachLemmas.{either_of_and, and_of_either, any_append, append_any}

-- Items.

-- what fails of an item does of its list,
pub any_at : {X : Type 0} (F : X → Place → Type 0) (xs : List X) (i : ℕ) (d : X) (p : Place) → i < length xs →
    F (get_or xs i d) p → Any F xs p
any_at F [] i d p inside fails = absurd (omega arith)
any_at F (x ∷ xs) zero d p inside fails = inl fails
any_at F (x ∷ xs) (suc i) d p inside fails = inr (any_at F xs i d p (omega arith) fails)

-- and what does of a list does of one of its items
pub any_where : {X : Type 0} (F : X → Place → Type 0) (xs : List X) (d : X) (p : Place) → Any F xs p →
    (i : ℕ) × (i < length xs) × F (get_or xs i d) p
any_where F [] d p fails = absurd fails
any_where F (x ∷ xs) d p fails = elim fails [
  | inl here ↦ (0, omega arith, here)
  | inr there ↦
      let place = any_where F xs d p there in
      (suc place.0, omega (arith, place.1), place.2)
]

-- where each that fails of one kind fails of another kind, so does the list
pub any_each : {X : Type 0} (F G : X → Place → Type 0) (xs : List X) (p : Place) → ((x : X) → F x p → G x p) →
    Any F xs p → Any G xs p
any_each F G [] p each fails = fails
any_each F G (x ∷ xs) p each fails = elim fails [
  | inl here ↦ inl (each x here)
  | inr there ↦ inr (any_each F G xs p each there)
]

-- Lists that are made of others: what fails of items that are made of others,
pub any_map : {X Y : Type 0} (F : Y → Place → Type 0) (f : X → Y) (xs : List X) (p : Place) →
    Any F (map f xs) p ↔ Any (λ x. F (f x)) xs p
any_map F f [] p = (λ fails. fails, λ fails. fails)
any_map F f (x ∷ xs) p = (
  λ fails. elim fails [ inl here ↦ inl here | inr there ↦ inr ((any_map F f xs p).0 there) ],
  λ fails. elim fails [ inl here ↦ inl here | inr there ↦ inr ((any_map F f xs p).1 there) ],
)

-- of those that pass a test,
pub any_filter : {X : Type 0} (F : X → Place → Type 0) (t : X → Bool) (xs : List X) (p : Place) →
    Any F (filter t xs) p ↔ Any (λ x q. (t x ≡ true) × F x q) xs p
any_filter F t [] p = (λ fails. fails, λ fails. fails)
any_filter F t (x ∷ xs) p = elim (cases_Bool (t x)) [
  | inl is ↦ rw is (
    λ fails. elim fails [ inl here ↦ inl (refl, here) | inr there ↦ inr ((any_filter F t xs p).0 there) ],
    λ fails. elim fails [ inl here ↦ inl here.1 | inr there ↦ inr ((any_filter F t xs p).1 there) ],
  )
  | inr out ↦ rw out (
    λ fails. inr ((any_filter F t xs p).0 fails),
    λ fails. elim fails [
      | inl here ↦ absurd (false≢true here.0)
      | inr there ↦ (any_filter F t xs p).1 there
    ],
  )
]

-- of those of several lists,
pub any_flat_map : {X Y : Type 0} (F : Y → Place → Type 0) (f : X → List Y) (xs : List X) (p : Place) →
    Any F (flat_map f xs) p ↔ Any (λ x. Any F (f x)) xs p
any_flat_map F f [] p = (λ fails. fails, λ fails. fails)
any_flat_map F f (x ∷ xs) p = (
  λ fails. elim (any_append F (f x) (flat_map f xs) p fails) [
    | inl here ↦ inl here
    | inr there ↦ inr ((any_flat_map F f xs p).0 there)
  ],
  λ fails. append_any F (f x) (flat_map f xs) p (elim fails [
    | inl here ↦ inl here
    | inr there ↦ inr ((any_flat_map F f xs p).1 there)
  ]),
)

-- what some give an item is a list of lists of one or none
filter_map-is : {X Y : Type 0} (g : X → Option Y) (xs : List X) →
    filter_map g xs ≡ flat_map (λ x. option_to_list (g x)) xs
filter_map-is {Y = Y} g [] = refl
filter_map-is {Y = Y} g (x ∷ xs) = first (g x) ∙ ap (λ ys. option_to_list (g x) ++ ys) (filter_map-is g xs)
  where
    first : (o : Option Y) → cons_option o (filter_map g xs) ≡ option_to_list o ++ filter_map g xs
    first None = refl
    first (Some y) = refl

-- and of those that some give
pub any_filter_map : {X Y : Type 0} (F : Y → Place → Type 0) (g : X → Option Y) (xs : List X) (p : Place) →
    Any F (filter_map g xs) p ↔ Any (λ x. Any F (option_to_list (g x))) xs p
any_filter_map F g xs p = rw filter_map-is (any_flat_map F (λ x. option_to_list (g x)) xs p)

-- Tests.

-- not all pass where one doesn't
pub any_of_all : {X : Type 0} (t : X → Place → Bool) (xs : List X) (p : Place) →
    (list_all (λ x. t x p) xs ≡ false) ↔ Any (λ x q. t x q ≡ false) xs p
any_of_all t [] p = (λ fails. absurd (false≢true (sym fails)), λ fails. absurd fails)
any_of_all t (x ∷ xs) p = (
  λ fails. elim (and_of_either (t x p) (list_all (λ x. t x p) xs) fails) [
    | inl here ↦ inl here
    | inr there ↦ inr ((any_of_all t xs p).0 there)
  ],
  λ fails. either_of_and (t x p) (list_all (λ x. t x p) xs) (elim fails [
    | inl here ↦ inl here
    | inr there ↦ inr ((any_of_all t xs p).1 there)
  ]),
)
