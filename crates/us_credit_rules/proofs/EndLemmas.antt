-- The first of places, and tests that are asked behind the last round, each of an item with an id at the place of that id.
use Rattle.std.proofs.Common.{◌≡◌, ℕ, ◌==◌, Bool, true, false, List, [], ◌∷◌, Option, None, sym, ap, ◌∙◌, inl, inr, eq-eqb, ne_eqb}
use Rattle.std.specs.Prelude.{◌&&◌, if◌then◌else◌, fold}
use Rattle.std.specs.List.{AllByRecursion, list_all}
use Rattle.std.proofs.lemmas.Bool.{and_cases, and_left, and_parts, and_right, cases_Bool, cases_eq, eqb-true, false≢true}
use Rattle.us_flows.specs.declared.channels.Channel.{Channel}
use Rattle.us_reports.specs.declared.place.Place.{Place}
use Rattle.us_reports.specs.Order.{earlier}
use Rattle.us_reports.specs.Breaches.{Any, At, Either, IsFirstBreach, IsFirstFailure}
use Rattle.us_reports.proofs.BreachLemmas.{holds_first, joined, same_places}
use Rattle.us_reports.proofs.AnyLemmas.{any_each, any_of_all}
use Rattle.us_credit_rules.specs.Ends.{end_place, first_of}

-- The first of places.

module _ {X : Type 0} (channels : List Channel) (F : X → Place → Type 0) (place : X → Option Place) where
  -- behind what else fails
  first_behind : (B : Place → Type 0) (best : Option Place) (xs : List X) → IsFirstFailure channels B best →
      AllByRecursion (λ x. IsFirstFailure channels (F x) (place x)) xs →
      IsFirstFailure channels (Either B (Any F xs)) (fold (λ first x. earlier channels first (place x)) best xs)
  first_behind B best [] first all =
      same_places channels B (Either B (Any F [])) best (λ p fails. inl fails)
      (λ p fails. elim fails [ inl here ↦ here | inr none ↦ absurd none ]) first
  first_behind B best (x ∷ xs) first all =
      same_places channels (Either (Either B (F x)) (Any F xs)) (Either B (Any F (x ∷ xs)))
      (fold (λ first x. earlier channels first (place x)) (earlier channels best (place x)) xs)
      (λ p fails. elim fails [
        | inl front ↦ elim front [ inl other ↦ inl other | inr here ↦ inr (inl here) ]
        | inr there ↦ inr (inr there)
      ])
      (λ p fails. elim fails [
        | inl other ↦ inl (inl other)
        | inr rest ↦ elim rest [ inl here ↦ inl (inr here) | inr there ↦ inr there ]
      ])
      (first_behind (Either B (F x)) (earlier channels best (place x)) xs
      (joined channels B (F x) best (place x) first all.0) all.1)

  pub first_among : (xs : List X) → AllByRecursion (λ x. IsFirstFailure channels (F x) (place x)) xs →
      IsFirstFailure channels (Any F xs) (first_of channels place xs)
  first_among xs all =
      same_places channels (Either (Any F []) (Any F xs)) (Any F xs) (first_of channels place xs)
      (λ p fails. elim fails [ inl none ↦ absurd none | inr there ↦ there ]) (λ p there. inr there)
      (first_behind (Any F []) None xs (λ p fails. fails) all)

-- Tests behind the last round.

module _ {X : Type 0} (id : X → ℕ) (holds : X → Bool) (rounds : ℕ) where
  -- an item fails at its place
  abbrev pub EndFails : X → Place → Type 0
  EndFails x = At (end_place rounds (id x)) (holds x)

  asked_there : (x : X) (p : Place) → p.round ≡ rounds → p.channel ≡ 0 →
      (if id x == p.third then holds x else true) ≡ false → EndFails x p
  asked_there x p round channel fails = elim (cases_eq (id x) p.third) [
    | inl same ↦ (
      (λ i. record { round = round i; channel = channel i; third = sym same i }),
      ap (λ b. if b then holds x else true) (sym (eq-eqb (id x) p.third same)) ∙ fails,
    )
    | inr other ↦
        absurd (false≢true (sym fails ∙ ap (λ b. if b then holds x else true) (ne_eqb (id x) p.third other)))
  ]

  there_asked : (x : X) (p : Place) → EndFails x p → (if id x == p.third then holds x else true) ≡ false
  there_asked x p fails =
      ap (λ b. if b then holds x else true) (eq-eqb (id x) p.third (sym (ap (λ (q : Place). q.third) fails.0))) ∙ fails.1

  all_there : (xs : List X) (p : Place) → p.round ≡ rounds → p.channel ≡ 0 →
      list_all (λ x. if id x == p.third then holds x else true) xs ≡ false → Any EndFails xs p
  all_there xs p round channel fails =
      any_each (λ x p. (if id x == p.third then holds x else true) ≡ false) EndFails xs p
      (λ x fails. asked_there x p round channel fails)
      ((any_of_all (λ x p. if id x == p.third then holds x else true) xs p).0 fails)

  there_all : (xs : List X) (p : Place) → Any EndFails xs p →
      list_all (λ x. if id x == p.third then holds x else true) xs ≡ false
  there_all xs p fails =
      (any_of_all (λ x p. if id x == p.third then holds x else true) xs p).1
      (any_each EndFails (λ x p. (if id x == p.third then holds x else true) ≡ false) xs p
      (λ x fails. there_asked x p fails) fails)

  at_end : (xs : List X) (p : Place) → Any EndFails xs p → (p.round ≡ rounds) × (p.channel ≡ 0)
  at_end [] p fails = absurd fails
  at_end (x ∷ xs) p (inl here) = (ap (λ (q : Place). q.round) here.0, ap (λ (q : Place). q.channel) here.0)
  at_end (x ∷ xs) p (inr there) = at_end xs p there

asked_at : (round rounds channel : ℕ) (holds : Bool) → round ≡ rounds → channel ≡ 0 → holds ≡ false →
    (if (round == rounds) && (channel == 0) then holds else true) ≡ false
asked_at round rounds channel holds here all fails =
    rw (eq-eqb round rounds here, eq-eqb channel 0 all) fails

-- items of two lists
module _ {X Y : Type 0} (id : X → ℕ) (holds : X → Bool) (other_id : Y → ℕ) (other_holds : Y → Bool) (rounds : ℕ)
    (xs : List X) (ys : List Y) where
  abbrev first_test : ℕ → Bool
  first_test third = list_all (λ x. if id x == third then holds x else true) xs

  abbrev second_test : ℕ → Bool
  second_test third = list_all (λ y. if other_id y == third then other_holds y else true) ys

  abbrev end_test : Place → Bool
  end_test p =
      if (p.round == rounds) && (p.channel == 0) then first_test p.third && second_test p.third else true

  abbrev BothFail : Place → Type 0
  BothFail = Either (Any (EndFails id holds rounds) xs) (Any (EndFails other_id other_holds rounds) ys)

  -- what fails at the end is one of both,
  test_fails : (p : Place) → end_test p ≡ false → BothFail p
  test_fails p fails = elim (cases_Bool ((p.round == rounds) && (p.channel == 0))) [
    | inl there ↦
        let parts = and_parts (p.round == rounds) (p.channel == 0) there in
        let round : p.round ≡ rounds = eqb-true p.round rounds parts.0 in
        let channel : p.channel ≡ 0 = eqb-true p.channel 0 parts.1 in
        let out : (first_test p.third && second_test p.third) ≡ false = rw there at fails in
        elim (and_cases (first_test p.third) (second_test p.third) out) [
          | inl one ↦ inl (all_there id holds rounds xs p round channel one)
          | inr other ↦ inr (all_there other_id other_holds rounds ys p round channel other)
        ]
    | inr elsewhere ↦ absurd (false≢true (sym (rw elsewhere at fails)))
  ]

  -- and back
  fails_test : (p : Place) → BothFail p → end_test p ≡ false
  fails_test p (inl one) =
      let there = at_end id holds rounds xs p one in
      asked_at p.round rounds p.channel (first_test p.third && second_test p.third) there.0 there.1
      (and_left (first_test p.third) (second_test p.third) (there_all id holds rounds xs p one))
  fails_test p (inr other) =
      let there = at_end other_id other_holds rounds ys p other in
      asked_at p.round rounds p.channel (first_test p.third && second_test p.third) there.0 there.1
      (and_right (first_test p.third) (second_test p.third) (there_all other_id other_holds rounds ys p other))

  -- so the earlier of both is the first of a rule that is this test
  pub ends_first : (rule : Place → Bool) → ((p : Place) → end_test p ≡ rule p) → (channels : List Channel)
      (a b : Option Place) → IsFirstFailure channels (Any (EndFails id holds rounds) xs) a →
      IsFirstFailure channels (Any (EndFails other_id other_holds rounds) ys) b →
      IsFirstBreach channels (λ p. rule p ≡ true) (earlier channels a b)
  ends_first rule same channels a b first second =
      holds_first channels rule (earlier channels a b)
      (same_places channels BothFail (λ p. rule p ≡ false) (earlier channels a b)
      (λ p fails. sym (same p) ∙ fails_test p fails) (λ p fails. test_fails p (same p ∙ fails))
      (joined channels (Any (EndFails id holds rounds) xs) (Any (EndFails other_id other_holds rounds) ys) a b first second))
