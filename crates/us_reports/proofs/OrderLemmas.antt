-- The order of places: any two different places are in order, one way alone.
use Rattle.std.proofs.Common.{◌≡◌, ℕ, ◌<◌, Bool, true, false, List, [], ◌∷◌, Option, Some, None, get_or, refl, sym, ap, ap₂, ◌∙◌, inl, inr, arith}
use Rattle.std.specs.Prelude.{◌==◌, nat_lt, if◌then◌else◌}
use Rattle.std.proofs.lemmas.Bool.{cases_Bool, eqb-true, eq-eqb, false≢true}
use Rattle.std.proofs.lemmas.Bool.Decides.{nat_tests}
use Rattle.std.proofs.lemmas.List.Quantifiers.{position-Some}
use Rattle.us_flows.specs.declared.channels.Channel.{Channel}
use Rattle.us_reports.specs.declared.place.Place.{Place}
use Rattle.us_reports.specs.Order.{place_of, rank_among, rank_of, rank_goes_before, goes_before}

-- Lists of numbers, ordered by the first number in which they differ.

abbrev by_number : ℕ → ℕ → Bool → Bool
by_number x y next = if x == y then next else nat_lt x y

number-same : (x y : ℕ) (next : Bool) → x ≡ y → by_number x y next ≡ next
number-same x y next same = rw (eq-eqb x y same) refl

number-asym : (x y : ℕ) (next back : Bool) → by_number x y next ≡ true → (next ≡ true → back ≡ false) →
    by_number y x back ≡ false
number-asym x y next back before apart = grind (arith, nat_tests)

number-joins : (x y z : ℕ) (first second both : Bool) → by_number x y first ≡ false → by_number y z second ≡ false →
    (first ≡ false → second ≡ false → both ≡ false) → by_number x z both ≡ false
number-joins x y z first second both one two joins = grind (arith, nat_tests)

number-equal : (x y : ℕ) (next back : Bool) → by_number x y next ≡ false → by_number y x back ≡ false →
    (x ≡ y) × (next ≡ false) × (back ≡ false)
number-equal x y next back one two = grind (arith, nat_tests)

abbrev in_order : List ℕ → List ℕ → Bool
in_order [] [] = false
in_order [] (y ∷ ys) = true
in_order (x ∷ xs) [] = false
in_order (x ∷ xs) (y ∷ ys) = by_number x y (in_order xs ys)

order-self : (xs : List ℕ) → in_order xs xs ≡ false
order-self [] = refl
order-self (x ∷ xs) = number-same x x (in_order xs xs) refl ∙ order-self xs

order-asym : (xs ys : List ℕ) → in_order xs ys ≡ true → in_order ys xs ≡ false
order-asym [] [] before = refl
order-asym [] (y ∷ ys) before = refl
order-asym (x ∷ xs) [] before = absurd (false≢true before)
order-asym (x ∷ xs) (y ∷ ys) before = number-asym x y (in_order xs ys) (in_order ys xs) before (order-asym xs ys)

order-joins : (xs ys zs : List ℕ) → in_order xs ys ≡ false → in_order ys zs ≡ false → in_order xs zs ≡ false
order-joins [] [] zs one two = two
order-joins [] (y ∷ ys) zs one two = absurd (false≢true (sym one))
order-joins (x ∷ xs) ys [] one two = refl
order-joins (x ∷ xs) [] (z ∷ zs) one two = absurd (false≢true (sym two))
order-joins (x ∷ xs) (y ∷ ys) (z ∷ zs) one two =
    number-joins x y z (in_order xs ys) (in_order ys zs) (in_order xs zs) one two (order-joins xs ys zs)

order-equal : (xs ys : List ℕ) → in_order xs ys ≡ false → in_order ys xs ≡ false → xs ≡ ys
order-equal [] [] one two = refl
order-equal [] (y ∷ ys) one two = absurd (false≢true (sym one))
order-equal (x ∷ xs) [] one two = absurd (false≢true (sym two))
order-equal (x ∷ xs) (y ∷ ys) one two =
    let first = number-equal x y (in_order xs ys) (in_order ys xs) one two in
    ap₂ (λ z zs. z ∷ zs) first.0 (order-equal xs ys first.1 first.2)

-- Ranks.

-- one place in the table is of one id
two_ids : (channels : List Channel) (a b place : ℕ) → place_of channels a ≡ Some place →
    place_of channels b ≡ Some place → a ≡ b
two_ids [] a b place at_a at_b = absurd (cc at_a)
two_ids (c ∷ cs) a b place at_a at_b =
    let one = position-Some (λ channel. channel.id == a) (c ∷ cs) place c at_a in
    let two = position-Some (λ channel. channel.id == b) (c ∷ cs) place c at_b in
    sym (eqb-true (get_or (c ∷ cs) place c).id a one.1) ∙ eqb-true (get_or (c ∷ cs) place c).id b two.1

-- different ids have different ranks
among-equal : (channels : List Channel) (a b : ℕ) (x y : Option ℕ) → place_of channels a ≡ x → place_of channels b ≡ y →
    rank_among a x ≡ rank_among b y → a ≡ b
among-equal channels a b None None at_a at_b same = ap (λ rank. rank.1) same
among-equal channels a b None (Some y) at_a at_b same = absurd (omega (arith, ap (λ rank. rank.0) same))
among-equal channels a b (Some x) None at_a at_b same = absurd (omega (arith, ap (λ rank. rank.0) same))
among-equal channels a b (Some x) (Some y) at_a at_b same =
    two_ids channels a b y (at_a ∙ ap (λ place. Some place) (ap (λ rank. rank.1) same)) at_b

among-kind : (id : ℕ) (x : Option ℕ) → 0 < (rank_among id x).0
among-kind id None = omega arith
among-kind id (Some x) = omega arith

zero-apart : (channels : List Channel) (a b : ℕ) → (a == 0) ≡ true → (b == 0) ≡ false →
    rank_of channels a ≡ rank_of channels b → ⊥
zero-apart channels a b zero other same =
    let kinds = ap (λ rank. rank.0) (rw (zero, other) at same) in
    omega (arith, kinds, among-kind b (place_of channels b))

rank-equal : (channels : List Channel) (a b : ℕ) → rank_of channels a ≡ rank_of channels b → a ≡ b
rank-equal channels a b same = elim (cases_Bool (a == 0)) [
  | inl zero_a ↦ elim (cases_Bool (b == 0)) [
    | inl zero_b ↦ eqb-true a 0 zero_a ∙ sym (eqb-true b 0 zero_b)
    | inr other_b ↦ absurd (zero-apart channels a b zero_a other_b same)
  ]
  | inr other_a ↦ elim (cases_Bool (b == 0)) [
    | inl zero_b ↦ absurd (zero-apart channels b a zero_b other_a (sym same))
    | inr other_b ↦
        among-equal channels a b (place_of channels a) (place_of channels b) refl refl (rw (other_a, other_b) at same)
  ]
]

-- Places.

-- the numbers by which places are ordered
abbrev numbers_of : List Channel → Place → List ℕ
numbers_of channels p =
    let rank = rank_of channels p.channel in
    p.round ∷ rank.0 ∷ rank.1 ∷ p.third ∷ []

third-last : (x y : ℕ) → nat_lt x y ≡ by_number x y false
third-last x y = grind (arith, nat_tests)

-- of ranks that differ, whatever comes next
ranks-before : (a b : ℕ × ℕ) (next : Bool) → (a.0 ≡ b.0 → a.1 ≡ b.1 → ⊥) →
    rank_goes_before a b ≡ by_number a.0 b.0 (by_number a.1 b.1 next)
ranks-before a b next apart = grind (arith, nat_tests)

-- on one channel by the third number, else by the ranks
channels-before : (channels : List Channel) (a b m n : ℕ) →
    (if a == b then nat_lt m n else rank_goes_before (rank_of channels a) (rank_of channels b)) ≡
    by_number (rank_of channels a).0 (rank_of channels b).0 (
    by_number (rank_of channels a).1 (rank_of channels b).1 (by_number m n false))
channels-before channels a b m n = elim (cases_Bool (a == b)) [
  | inl same ↦
      let id : a ≡ b = eqb-true a b same in
      rw same (third-last m n ∙ sym (
      number-same (rank_of channels a).0 (rank_of channels b).0 (
      by_number (rank_of channels a).1 (rank_of channels b).1 (by_number m n false))
      (ap (λ i. (rank_of channels i).0) id)
      ∙ number-same (rank_of channels a).1 (rank_of channels b).1 (by_number m n false)
      (ap (λ i. (rank_of channels i).1) id)))
  | inr other ↦ rw other (
      ranks-before (rank_of channels a) (rank_of channels b) (by_number m n false)
      (λ kind number. false≢true (sym other ∙ eq-eqb a b
      (rank-equal channels a b (ap₂ (λ x y. (x, y)) kind number)))))
]

before-numbers : (channels : List Channel) (a b : Place) →
    goes_before channels a b ≡ in_order (numbers_of channels a) (numbers_of channels b)
before-numbers channels a b =
    ap (λ next. by_number a.round b.round next) (channels-before channels a.channel b.channel a.third b.third)

-- no place goes before itself
pub before-self : (channels : List Channel) (p : Place) → goes_before channels p p ≡ false
before-self channels p = before-numbers channels p p ∙ order-self (numbers_of channels p)

-- of two places one at most goes before the other
pub before-asym : (channels : List Channel) (a b : Place) → goes_before channels a b ≡ true →
    goes_before channels b a ≡ false
before-asym channels a b before =
    before-numbers channels b a
    ∙ order-asym (numbers_of channels a) (numbers_of channels b) (sym (before-numbers channels a b) ∙ before)

-- where a first place does not go before a second, nor that before a third, the first does not go before the third
pub before-joins : (channels : List Channel) (a b c : Place) → goes_before channels a b ≡ false →
    goes_before channels b c ≡ false → goes_before channels a c ≡ false
before-joins channels a b c one two =
    before-numbers channels a c
    ∙ order-joins (numbers_of channels a) (numbers_of channels b) (numbers_of channels c)
    (sym (before-numbers channels a b) ∙ one) (sym (before-numbers channels b c) ∙ two)

-- places with the same three numbers are one
pub place-is : (a b : Place) → a.round ≡ b.round → a.channel ≡ b.channel → a.third ≡ b.third → a ≡ b
place-is a b round channel third =
    ap (λ r. place r a.channel a.third) round
    ∙ ap (λ c. place b.round c a.third) channel
    ∙ ap (λ t. place b.round b.channel t) third
  where
    place : ℕ → ℕ → ℕ → Place
    place r c t = record { round = r; channel = c; third = t }

-- two places of which none goes before the other are one
pub before-equal : (channels : List Channel) (a b : Place) → goes_before channels a b ≡ false →
    goes_before channels b a ≡ false → a ≡ b
before-equal channels a b one two =
    let same = order-equal (numbers_of channels a) (numbers_of channels b)
    (sym (before-numbers channels a b) ∙ one) (sym (before-numbers channels b a) ∙ two) in
    let rank : rank_of channels a.channel ≡ rank_of channels b.channel =
    ap₂ (λ x y. (x, y)) (ap (λ ns. get_or ns 1 0) same) (ap (λ ns. get_or ns 2 0) same) in
    let channel = rank-equal channels a.channel b.channel rank in
    let round : a.round ≡ b.round = ap (λ ns. get_or ns 0 0) same in
    place-is a b round channel (ap (λ ns. get_or ns 3 0) same)
