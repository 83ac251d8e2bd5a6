-- What must be in a MAP, put in order.
use Rattle.std.proofs.Common.{◌≡◌, ℕ, suc, ◌<◌, ◌≤◌, List, [], ◌∷◌, ◌++◌, length, get_or, Option, refl, sym, ap, subst, arith}
use Rattle.std.specs.Prelude.{Result, Ok, Err, IfOk, sum_by}
use Rattle.std.specs.List.{AllByRecursion}
use Rattle.std.specs.List.Sorted.{IsNonDecreasingBy}
use Rattle.us_flows.specs.declared.channels.Channel.{Channel}
use Rattle.us_lawful.specs.Regions.{Region, minislot_holds}
use Rattle.us_lawful.proofs.RegionLemmas.{moved_holds}
use Rattle.us_lawful.proofs.SameLemmas.{Same, sum_append}
use Rattle.us_map_rules.specs.Minislots.{AreByStart, IsFirstFailing}
use Rattle.us_map_rules.proofs.PartLemmas.{same_test}

-- a MAP fails first at the same minislot, however what must be there is put in order
pub moved_failing : (c : Channel) (len : ℕ) (gathered ordered pieces elements : List Region) (first : Option ℕ) →
    Same gathered ordered → pieces ≡ elements → IsFirstFailing (minislot_holds c len ordered pieces) first →
    IsFirstFailing (minislot_holds c len gathered elements) first
moved_failing c len gathered ordered pieces elements first same is failing =
    subst (λ es. IsFirstFailing (minislot_holds c len gathered es) first) is
    (same_test (minislot_holds c len ordered pieces) (minislot_holds c len gathered pieces) first
    (λ at. moved_holds c len ordered gathered pieces at (λ f. sym (same f))) failing)

-- and so where the reserves are put to lines
between_moved : (front middle back gathered : List Region) → gathered ≡ front ++ middle ++ back →
    Same (front ++ back ++ middle) gathered
between_moved front middle back gathered is f =
    omega (
      arith,
      ap (sum_by f) is,
      sum_append f (front ++ middle) back,
      sum_append f front middle,
      sum_append f (front ++ back) middle,
      sum_append f front back,
    )

pub reserved_failing : {E : Type 0} (c : Channel) (len whole : ℕ) (front middle back gathered pieces : List Region) (side : Type 0)
    (answer : Result (Option ℕ) E) → len ≡ whole → gathered ≡ front ++ middle ++ back →
    IfOk answer (λ first. side → IsFirstFailing (minislot_holds c len gathered pieces) first) →
    IfOk answer (λ first. side → IsFirstFailing (minislot_holds c whole (front ++ back ++ middle) pieces) first)
reserved_failing c len whole front middle back gathered pieces side (Err e) long is told = told
reserved_failing c len whole front middle back gathered pieces side (Ok first) long is told = λ stand.
    moved_failing c whole (front ++ back ++ middle) gathered pieces pieces first (between_moved front middle back gathered is) refl
    (subst (λ l. IsFirstFailing (minislot_holds c l gathered pieces) first) long (told stand))

all_indexed : (least : ℕ) (regions : List Region) →
    ((j : ℕ) (d : Region) → j < length regions → least ≤ (get_or regions j d).start) →
    AllByRecursion (λ later. least ≤ later.start) regions
all_indexed least [] each = tt
all_indexed least (s ∷ more) each =
    (each 0 s (omega arith), all_indexed least more (λ j d inside. each (suc j) d (omega (arith, inside))))

-- sorted regions stand by start
pub sorted_by_start : (regions : List Region) → IsNonDecreasingBy (λ s. s.start) regions → AreByStart regions
sorted_by_start [] ordered = tt
sorted_by_start (s ∷ more) ordered = (
  all_indexed s.start more (λ j d inside. ordered 0 (suc j) d (omega arith) (omega (arith, inside))),
  sorted_by_start more (λ i j d up inside. ordered (suc i) (suc j) d (omega (arith, up)) (omega (arith, inside))),
)
