-- What is answered of a rule: of parts that fail, and from them of the rule.
use Rattle.std.proofs.Common.{◌≡◌, ℕ, ◌+◌, ◌<◌, ◌≤◌, Bool, true, false, List, [], ◌∷◌, ◌++◌, Option, Some, None, get_or, take, length, refl, sym, ap, ◌∙◌, ◌⊎◌, inl, inr, add-one}
use Rattle.std.specs.Prelude.{◌↔◌, ◌==◌, not, ◌||◌, ◌&&◌, if◌then◌else◌}
use Rattle.std.proofs.lemmas.Bool.{cases_Bool, false≢true, and_from, and_parts, eqb-true, eq-eqb}
use Rattle.std.proofs.lemmas.List.{take_all}
use Rattle.std.proofs.Math.Seq.{take-suc}
use Rattle.us_flows.specs.declared.channels.Channel.{Channel}
use Rattle.us_reports.specs.declared.place.Place.{Place}
use Rattle.us_reports.specs.Order.{goes_before, earlier}
use Rattle.us_reports.specs.Breaches.{IsFirstBreach, IsFirstFailure, At, Either, Any}
use Rattle.us_reports.proofs.OrderLemmas.{place-is, before-self, before-asym, before-joins}

-- One part.

-- what never fails fails nowhere
pub none_fails : (channels : List Channel) (Fails : Place → Type 0) → ((p : Place) → Fails p → ⊥) →
    IsFirstFailure channels Fails None
none_fails channels Fails never = never

-- a test at a place fails there, or nowhere
pub at_test : (channels : List Channel) (at : Place) (holds : Bool) →
    IsFirstFailure channels (At at holds) (if holds then None else Some at)
at_test channels at true = λ p fails. false≢true (sym fails.1)
at_test channels at false =
    ((refl, refl), λ p fails. ap (λ q. goes_before channels q at) fails.0 ∙ before-self channels at)

-- a test that compares the three numbers finds that place alone,
pub same_at : (at p : Place) →
    (((at.round == p.round) && ((at.channel == p.channel) && (at.third == p.third))) ≡ true) ↔ (p ≡ at)
same_at at p = (
  λ same.
      let round = and_parts (at.round == p.round) ((at.channel == p.channel) && (at.third == p.third)) same in
      let others = and_parts (at.channel == p.channel) (at.third == p.third) round.1 in
      place-is p at (sym (eqb-true at.round p.round round.0)) (sym (eqb-true at.channel p.channel others.0))
      (sym (eqb-true at.third p.third others.1)),
  λ is. and_from (at.round == p.round) ((at.channel == p.channel) && (at.third == p.third))
      (eq-eqb at.round p.round (ap (λ q. q.round) (sym is)))
      (and_from (at.channel == p.channel) (at.third == p.third)
      (eq-eqb at.channel p.channel (ap (λ q. q.channel) (sym is)))
      (eq-eqb at.third p.third (ap (λ q. q.third) (sym is)))),
)

-- so a rule that asks for something there alone fails where that does
pub at_there : (at p : Place) (holds : Bool) →
    ((not ((at.round == p.round) && ((at.channel == p.channel) && (at.third == p.third))) || holds) ≡ false)
    ↔ At at holds p
at_there at p holds = (
  λ fails. elim (cases_Bool there) [
    | inl is ↦ ((same_at at p).0 is, sym (ap (λ b. not b || holds) is) ∙ fails)
    | inr out ↦ absurd (false≢true (sym fails ∙ ap (λ b. not b || holds) out))
  ],
  λ fails. ap (λ b. not b || holds) ((same_at at p).1 fails.0) ∙ fails.1,
)
  where
    there : Bool
    there = (at.round == p.round) && ((at.channel == p.channel) && (at.third == p.third))

-- one place fails that is all that fails
pub only_there : (channels : List Channel) (Fails : Place → Type 0) (at : Place) → Fails at →
    ((p : Place) → Fails p → p ≡ at) → IsFirstFailure channels Fails (Some at)
only_there channels Fails at fails only =
    (fails, λ p there. ap (λ q. goes_before channels q at) (only p there) ∙ before-self channels at)

-- things that fail at the same places have the same answers
pub same_places : (channels : List Channel) (A B : Place → Type 0) (answer : Option Place) →
    ((p : Place) → A p → B p) → ((p : Place) → B p → A p) →
    IsFirstFailure channels A answer → IsFirstFailure channels B answer
same_places channels A B None there back first = λ p fails. first p (back p fails)
same_places channels A B (Some at) there back first = (there at first.0, λ p fails. first.1 p (back p fails))

-- Parts joined.

-- of two parts the earlier answer
pub joined : (channels : List Channel) (A B : Place → Type 0) (a b : Option Place) →
    IsFirstFailure channels A a → IsFirstFailure channels B b →
    IsFirstFailure channels (Either A B) (earlier channels a b)
joined channels A B None None of_a of_b =
    λ p fails. elim fails [ inl fails_a ↦ of_a p fails_a | inr fails_b ↦ of_b p fails_b ]
joined channels A B None (Some b) of_a of_b =
    (inr of_b.0, λ p fails. elim fails [ inl fails_a ↦ absurd (of_a p fails_a) | inr fails_b ↦ of_b.1 p fails_b ])
joined channels A B (Some a) None of_a of_b =
    (inl of_a.0, λ p fails. elim fails [ inl fails_a ↦ of_a.1 p fails_a | inr fails_b ↦ absurd (of_b p fails_b) ])
joined channels A B (Some a) (Some b) of_a of_b = elim (cases_Bool (goes_before channels b a)) [
  | inl before ↦ rw before (
    inr of_b.0,
    λ p fails. elim fails [
      | inl fails_a ↦ before-joins channels p a b (of_a.1 p fails_a) (before-asym channels b a before)
      | inr fails_b ↦ of_b.1 p fails_b
    ],
  )
  | inr not ↦ rw not (
    inl of_a.0,
    λ p fails. elim fails [
      | inl fails_a ↦ of_a.1 p fails_a
      | inr fails_b ↦ before-joins channels p b a (of_b.1 p fails_b) not
    ],
  )
]

-- Items.

-- what fails of a list and of another one behind it
pub any_append : {X : Type 0} (F : X → Place → Type 0) (xs ys : List X) (p : Place) →
    Any F (xs ++ ys) p → Either (Any F xs) (Any F ys) p
any_append F [] ys p fails = inr fails
any_append F (x ∷ xs) ys p fails = elim fails [
  | inl here ↦ inl (inl here)
  | inr there ↦ elim (any_append F xs ys p there) [ inl front ↦ inl (inr front) | inr back ↦ inr back ]
]

-- and back
pub append_any : {X : Type 0} (F : X → Place → Type 0) (xs ys : List X) (p : Place) →
    Either (Any F xs) (Any F ys) p → Any F (xs ++ ys) p
append_any F [] ys p fails = elim fails [ inl none ↦ absurd none | inr back ↦ back ]
append_any F (x ∷ xs) ys p fails = elim fails [
  | inl front ↦ elim front [ inl here ↦ inl here | inr there ↦ inr (append_any F xs ys p (inl there)) ]
  | inr back ↦ inr (append_any F xs ys p (inr back))
]

-- one item behind others
pub one_behind : {X : Type 0} (channels : List Channel) (F : X → Place → Type 0) (xs : List X) (x : X)
    (best one : Option Place) →
    IsFirstFailure channels (Any F xs) best → IsFirstFailure channels (F x) one →
    IsFirstFailure channels (Any F (xs ++ x ∷ [])) (earlier channels best one)
one_behind channels F xs x best one of_xs of_x =
    same_places channels (Either (Any F xs) (F x)) (Any F (xs ++ x ∷ [])) (earlier channels best one)
    (λ p fails. append_any F xs (x ∷ []) p (elim fails [ inl front ↦ inl front | inr last ↦ inr (inl last) ]))
    (λ p fails. elim (any_append F xs (x ∷ []) p fails) [
      | inl front ↦ inl front
      | inr last ↦ elim last [ inl here ↦ inr here | inr none ↦ absurd none ]
    ])
    (joined channels (Any F xs) (F x) best one of_xs of_x)

-- the step of a loop over items: one item more
pub one_more : {X : Type 0} (channels : List Channel) (F : X → Place → Type 0) (xs : List X) (i : ℕ) (x d : X)
    (best one : Option Place) → i < length xs → x ≡ get_or xs i d →
    IsFirstFailure channels (Any F (take i xs)) best → IsFirstFailure channels (F x) one →
    IsFirstFailure channels (Any F (take (i + 1) xs)) (earlier channels best one)
one_more channels F xs i x d best one inside is of_xs of_x =
    let more : take (i + 1) xs ≡ take i xs ++ x ∷ [] =
    rw add-one (take-suc xs i d inside ∙ ap (λ y. take i xs ++ y ∷ []) (sym is)) in
    rw more (one_behind channels F (take i xs) x best one of_xs of_x)

-- its end: all items
pub all_done : {X : Type 0} (channels : List Channel) (F : X → Place → Type 0) (xs : List X) (i : ℕ) (best : Option Place) →
    length xs ≤ i → IsFirstFailure channels (Any F (take i xs)) best → IsFirstFailure channels (Any F xs) best
all_done channels F xs i best past of_xs = rw (take_all i xs past) at of_xs

-- Rules.

-- an answer of what fails is one of the rule, where the rule is a test
pub holds_first : (channels : List Channel) (rule : Place → Bool) (answer : Option Place) →
    IsFirstFailure channels (λ p. rule p ≡ false) answer → IsFirstBreach channels (λ p. rule p ≡ true) answer
holds_first channels rule None first = λ p. elim (cases_Bool (rule p)) [
  | inl holds ↦ holds
  | inr fails ↦ absurd (first p fails)
]
holds_first channels rule (Some at) first = (
  λ holds. false≢true (sym first.0 ∙ holds),
  λ p before. elim (cases_Bool (rule p)) [
    | inl holds ↦ holds
    | inr fails ↦ absurd (false≢true (sym (first.1 p fails) ∙ before))
  ],
)

-- of two tests that have to pass one fails where both together do,
pub either_of_and : (a b : Bool) → (a ≡ false) ⊎ (b ≡ false) → (a && b) ≡ false
either_of_and true b fails = elim fails [ inl first ↦ absurd (false≢true (sym first)) | inr second ↦ second ]
either_of_and false b fails = refl

-- and back
pub and_of_either : (a b : Bool) → (a && b) ≡ false → (a ≡ false) ⊎ (b ≡ false)
and_of_either true b fails = inr fails
and_of_either false b fails = inl refl

-- a rule of two tests, each answered
pub both_tests : (channels : List Channel) (one two : Place → Bool) (a b : Option Place) →
    IsFirstFailure channels (λ p. one p ≡ false) a → IsFirstFailure channels (λ p. two p ≡ false) b →
    IsFirstFailure channels (λ p. (one p && two p) ≡ false) (earlier channels a b)
both_tests channels one two a b of_one of_two =
    same_places channels (Either (λ p. one p ≡ false) (λ p. two p ≡ false)) (λ p. (one p && two p) ≡ false)
    (earlier channels a b)
    (λ p fails. either_of_and (one p) (two p) fails) (λ p fails. and_of_either (one p) (two p) fails)
    (joined channels (λ p. one p ≡ false) (λ p. two p ≡ false) a b of_one of_two)
