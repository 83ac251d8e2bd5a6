-- What a verdict names is the first that is broken.
use Rattle.std.proofs.Common.{◌≡◌, ℕ, zero, suc, ◌<◌, ◌≤◌, List, [], ◌∷◌, take, Some, refl, ap, sym, subst, inl, inr, arith, rules}
use Rattle.std.specs.Prelude.{slice_get}
use Rattle.std.specs.List.{AllByRecursion}
use Rattle.us_reports.specs.declared.place.Place.{Place}
use Rattle.us_output.proofs.PartLemmas.{all_found}
use Rattle.us_lawful.specs.Runs.{Run, Judged}
use Rattle.us_reports.specs.declared.rules.Breach.{Breach}
use Rattle.us_reports.specs.declared.rules.Rule.{Rule}
use Rattle.us_reports.specs.declared.rules.Rule.TheVariants as rule
use Rattle.us_check.specs.Verdicts.{AreRead, HoldsAll, IsAnswer, IsBroken, IsPartBroken, Part, order_of, parts, rule_of}
use Rattle.us_check.specs.Named.{IsFirstBroken, RuleHoldsBefore, VerdictsNameTheFirst, number_of}
use Rattle.us_check.proofs.VerdictLaws.{breach_of, broken_part, by_either, listed, reached}

-- The numbers of parts rise.

abbrev Rise : {X : Type 0} → (X → ℕ) → List X → Type 0
Rise f [] = Unit {0}
Rise f (x ∷ xs) = AllByRecursion (λ y. f x ≤ f y) xs × Rise f xs

-- so one of a lower number stands before
lower_held : {X : Type 0} (f : X → ℕ) (P : X → Type 0) (xs : List X) (n m : ℕ) (x y : X) → Rise f xs →
    slice_get xs n ≡ Some x → slice_get xs m ≡ Some y → f y < f x → AllByRecursion P (take n xs) → P y
lower_held f P [] n m x y rise got other less all = absurd (cc got)
lower_held f P (z ∷ zs) (suc n) zero x y rise got other less all =
    let is : z ≡ y = cc in
    subst P is all.0
lower_held f P (z ∷ zs) (suc n) (suc m) x y rise got other less all = lower_held f P zs n m x y rise.1 got other less all.1
lower_held f P (z ∷ zs) zero zero x y rise got other less all =
    let same : y ≡ x = cc in
    absurd (omega (arith, less, ap f same))
lower_held f P (z ∷ zs) zero (suc m) x y rise got other less all =
    let same : z ≡ x = cc in
    absurd (omega (arith, less, ap f same, all_found (λ y. f z ≤ f y) zs m y rise.0 other))

abbrev part_number : Part → ℕ
part_number part = number_of (rule_of part)

rising : Rise part_number parts
rising = search rules

-- Breaches.

held_before : (run : Run) (judged : Judged) (part : Part) (place : Place) → IsPartBroken run judged part place →
    RuleHoldsBefore run judged (rule_of part) place
held_before run judged part place is other rule hold = elim (reached run judged part other place is hold) [
  | inl holds ↦ λ p _. holds p
  | inr same ↦ rw same is.first.1
]

-- a part that is broken first breaks its rule there
first_broken : (run : Run) (judged : Judged) (breach : Breach) → IsAnswer run judged (Some breach) →
    IsFirstBroken run judged breach.rule breach.place
first_broken run judged breach is =
    let broken = broken_part run judged breach is in
    subst (λ rule. IsFirstBroken run judged rule breach.place) (sym broken.1) (record {
      fails = λ all. broken.2.first.0 (all broken.0 refl);
      lower = λ other less. lower_held part_number (HoldsAll run judged) parts (order_of broken.0) (order_of other)
          broken.0 other rising (listed broken.0) (listed other) less broken.2.earlier;
      before = held_before run judged broken.0 breach.place broken.2;
    })

pub verdicts_name_the_first : VerdictsNameTheFirst
verdicts_name_the_first run maps report rule round channel third other is =
    elim (by_either run maps report (breach_of rule round channel third) rule is) [
      | inl bad ↦ absurd (other bad.0)
      | inr told ↦ (told.0, told.1, first_broken run told.0 (breach_of rule round channel third) told.2)
    ]

-- No part is of the rule of records.
two_up : AllByRecursion (λ part. 2 ≤ part_number part) parts
two_up = search rules

never_records : (part : Part) → rule.Records ≡ rule_of part → ⊥
never_records part same =
    omega (
      arith,
      ap number_of same,
      all_found (λ part. 2 ≤ part_number part) parts (order_of part) part two_up (listed part),
    )

-- So a rule that a part breaks is broken by what was read.
pub broken_by_parts : (run : Run) (maps report : List ℕ) (judged : Judged) → AreRead maps report judged →
    (of : Rule) (place : Place) → IsAnswer run judged (Some (record { rule = of; place = place })) →
    IsBroken run maps report (record { rule = of; place = place }) of
broken_by_parts run maps report judged read rule.Records place is =
    let broken = broken_part run judged (record { rule = rule.Records; place = place }) is in
    absurd (never_records broken.0 broken.1)
broken_by_parts run maps report judged read rule.Headings place is = (judged, read, is)
broken_by_parts run maps report judged read rule.Minislots place is = (judged, read, is)
broken_by_parts run maps report judged read rule.Occurrences place is = (judged, read, is)
broken_by_parts run maps report judged read rule.Rates place is = (judged, read, is)
broken_by_parts run maps report judged read rule.Credits place is = (judged, read, is)
