-- Where tests of a flow in a round fail first, over all channels.
use Rattle.std.proofs.Common.{◌≡◌, ℕ, ◌<◌, ◌≤◌, ◌==◌, Bool, true, false, cond, List, [], ◌∷◌, Option, Some, None, refl, sym, inl, inr, arith, eq-eqb, lt-ltb}
use Rattle.std.specs.Prelude.{◌&&◌, ◌||◌, not, nat_lt}
use Rattle.std.specs.List.{list_all}
use Rattle.std.proofs.lemmas.Bool.{cases_lt, both_ways, and_parts, eqb-true, ltb-true, le-ltb, not-false, or_from, or_parts, or_right, and_right, and_cases}
use Rattle.std.proofs.lemmas.Bool.Decides.{nat_tests}
use Rattle.us_flows.specs.declared.channels.Channel.{Channel}
use Rattle.us_reports.specs.declared.place.Place.{Place}
use Rattle.us_reports.specs.Breaches.{IsFirstFailure, Any}
use Rattle.us_reports.proofs.BreachLemmas.{same_places}
use Rattle.us_credit_rules.specs.Shorts.{IsFirstRound, flow_place}

-- Tests of all items, where something else doesn't pass.

module _ {X : Type 0} (other : Place → Bool) (each : X → Place → Bool) where
  any_fails : (xs : List X) (p : Place) → Any (λ x p. (other p || each x p) ≡ false) xs p →
      (other p || list_all (λ x. each x p) xs) ≡ false
  any_fails [] p fails = absurd fails
  any_fails (x ∷ xs) p (inl here) =
      let parts = or_parts (other p) (each x p) here in
      or_from (other p) (list_all (λ x. each x p) (x ∷ xs)) parts.0 (first_out parts.1)
    where
      first_out : each x p ≡ false → (each x p && list_all (λ x. each x p) xs) ≡ false
      first_out out = rw out refl
  any_fails (x ∷ xs) p (inr there) =
      let parts = or_parts (other p) (list_all (λ x. each x p) xs) (any_fails xs p there) in
      or_from (other p) (list_all (λ x. each x p) (x ∷ xs)) parts.0
      (and_right (each x p) (list_all (λ x. each x p) xs) parts.1)

  fails_any : (xs : List X) (p : Place) → (other p || list_all (λ x. each x p) xs) ≡ false →
      Any (λ x p. (other p || each x p) ≡ false) xs p
  fails_any [] p fails = absurd (both_ways (other p || true) fails (or_right (other p) true refl))
  fails_any (x ∷ xs) p fails =
      let parts = or_parts (other p) (list_all (λ x. each x p) (x ∷ xs)) fails in
      elim (and_cases (each x p) (list_all (λ x. each x p) xs) parts.1) [
        | inl here ↦ inl (or_from (other p) (each x p) parts.0 here)
        | inr there ↦ inr (fails_any xs p (or_from (other p) (list_all (λ x. each x p) xs) parts.0 there))
      ]

  pub all_tested : (channels : List Channel) (xs : List X) (answer : Option Place) →
      IsFirstFailure channels (Any (λ x p. (other p || each x p) ≡ false) xs) answer →
      IsFirstFailure channels (λ p. (other p || list_all (λ x. each x p) xs) ≡ false) answer
  all_tested channels xs answer first =
      same_places channels (Any (λ x p. (other p || each x p) ≡ false) xs)
      (λ p. (other p || list_all (λ x. each x p) xs) ≡ false) answer (any_fails xs) (fails_any xs) first

-- A test of one flow.

-- at a place of another flow, or of none of these rounds, or of a channel, nothing is asked
abbrev pub flow_test : ℕ → ℕ → (ℕ → Bool) → Place → Bool
flow_test rounds id test p = not ((p.channel == 0) && nat_lt p.round rounds) || (not (id == p.third) || test p.round)

-- where it fails
record IsFailing (rounds id : ℕ) (test : ℕ → Bool) (p : Place) : Type 0 where
  channel : p.channel ≡ 0
  round : p.round < rounds
  third : p.third ≡ id
  fails : test p.round ≡ false

failing : (rounds id : ℕ) (test : ℕ → Bool) (p : Place) → flow_test rounds id test p ≡ false → IsFailing rounds id test p
failing rounds id test p fails =
    let outer = or_parts (not ((p.channel == 0) && nat_lt p.round rounds)) (not (id == p.third) || test p.round) fails in
    let inner = or_parts (not (id == p.third)) (test p.round) outer.1 in
    let asked = and_parts (p.channel == 0) (nat_lt p.round rounds)
    (not-false ((p.channel == 0) && nat_lt p.round rounds) outer.0) in
    record {
      channel = eqb-true p.channel 0 asked.0;
      round = ltb-true p.round rounds asked.1;
      third = sym (eqb-true id p.third (not-false (id == p.third) inner.0));
      fails = inner.1;
    }

pub flow_first : (channels : List Channel) (rounds id : ℕ) (test : ℕ → Bool) (answer : Option ℕ) →
    IsFirstRound rounds test answer →
    IsFirstFailure channels (λ p. flow_test rounds id test p ≡ false) (flow_place id answer)
flow_first channels rounds id test None first = λ p fails.
    let is = failing rounds id test p fails in
    both_ways (test p.round) is.fails (first p.round is.round)
flow_first channels rounds id test (Some round) first = (
  rw (lt-ltb round rounds first.0, eq-eqb id id refl) first.1,
  λ p fails.
      let is = failing rounds id test p fails in
      elim (cases_lt p.round round) [
        | inl early ↦ absurd (both_ways (test p.round) is.fails (first.2 p.round early))
        | inr late ↦ rw (is.channel, is.third) (third_last p.round round late (nat_lt id id) (le-ltb id id (omega arith)))
      ],
)
  where
    third_last : (a b : ℕ) → b ≤ a → (next : Bool) → next ≡ false → cond (a == b) next (nat_lt a b) ≡ false
    third_last a b late next out = grind (arith, nat_tests)
