-- Notes of rounds and places in an ordered set: what one more or one less changes, and the round of the first.
use Rattle.std.proofs.Common.{◌≡◌, ℕ, ◌+◌, ◌^◌, ◌<◌, ◌≤◌, Bool, true, false, min, sym, subst, ◌∙◌, inl, inr, arith}
use Rattle.std.specs.Ordering.{is_gt}
use Rattle.std.specs.BTreeMap.{is_at}
use Rattle.std.specs.BTreeSet.{BTreeSet, contains, Updates, IsLowerBound}
use Rattle.std.proofs.lemmas.Bool.{cases_eq, cases_lt}
use Rattle.std.proofs.lemmas.Bool.Decides.{nat_tests}
use Rattle.us_calendar.specs.Agendas.{note_cmp, is_far, IsChanged, IsFirstRound, IsLate}

other_key : (a b c d : ℕ) → (c ≡ a → d ≡ b → ⊥) → is_at (note_cmp (a, b)) (c, d) ≡ false
other_key a b c d apart = grind (arith, nat_tests)

no_earlier : (a b c d : ℕ) → is_gt (note_cmp (a, b) (c, d)) ≡ false → a ≤ c
no_earlier a b c d upto = grind (arith, nat_tests)

pub changed : (old new : BTreeSet (ℕ × ℕ)) (round place : ℕ) (noted : Bool) → Updates note_cmp old new (round, place) noted →
    IsChanged (is_far old) (is_far new) round place noted
changed old new round place noted updates = record {
  here = updates.1;
  others = λ r q apart. updates.2 (r, q) (other_key round place r q apart);
}

-- the round of the first
pub first_round : (far : BTreeSet (ℕ × ℕ)) (round place : ℕ) → IsLowerBound note_cmp far (round, place) →
    contains note_cmp far (round, place) ≡ true → IsFirstRound far round
first_round far round place least there = record {
  least = λ r q is. no_earlier round place r q (least (r, q) is);
  there = λ _. (place, there);
}

-- one more note
pub first_noted : (old new : BTreeSet (ℕ × ℕ)) (first round place : ℕ) → IsFirstRound old first →
    IsChanged (is_far old) (is_far new) round place true → IsFirstRound new (min first round)
first_noted old new first round place was now = record {
  least = λ r q is. elim (cases_eq r round) [
    | inl same ↦ omega (arith, same)
    | inr other ↦
        let old_one = was.least r q (sym (now.others r q (λ e _. other e)) ∙ is) in omega (arith, old_one)
  ];
  there = λ low. elim (cases_lt first round) [
    | inr later ↦
        let here : round ≡ min first round = omega (arith, later) in
        (place, subst (λ r. is_far new r place ≡ true) here now.here)
    | inl before ↦
        let same : first ≡ min first round = omega (arith, before) in
        let there = was.there (omega (arith, low, same)) in (
          there.0,
          subst (λ r. is_far new r there.0 ≡ true) same
              (now.others first there.0 (λ e _. omega (arith, before, e)) ∙ there.1),
        )
  ];
}

-- what is taken is of the round, where nothing is earlier
pub taken_round : (far : BTreeSet (ℕ × ℕ)) (first round at place : ℕ) → IsFirstRound far first → IsLate far round →
    first ≤ round → round + 1 < 2 ^ 32 → contains note_cmp far (at, place) ≡ true →
    IsLowerBound note_cmp far (at, place) → at ≡ round
taken_round far first round at place is late low early there least =
    let from = late at place there in
    let known = is.there (omega (arith, low, early)) in
    let upto = no_earlier at place first known.0 (least (first, known.0) known.1) in
    omega (arith, from, upto, low)
