-- Lines of MAPs that are told one after another: what is known behind each step.
use Rattle.std.proofs.Common.{◌≡◌, ℕ, zero, suc, ◌+◌, ◌*◌, ◌<◌, ◌≤◌, ◌==◌, Bool, List, [], ◌∷◌, ◌++◌, length, filter_map, drop, drop-drop, Option, Some, None, slice_get, refl, sym, ap, ap₂, ◌∙◌, subst, arith, inl, inr}
use Rattle.std.specs.Prelude.{min, option_to_list}
use Rattle.std.specs.List.{AllByRecursion}
use Rattle.std.proofs.lemmas.Bool.{cases_Bool, cases_lt, eq-eqb, ne_eqb}
use Rattle.std.proofs.lemmas.List.{drop_all}
use Rattle.us_flows.specs.Tables.{Tables}
use Rattle.us_output.proofs.PartLemmas.{all_append}
use Rattle.us_lawful.specs.Runs.{RoundMap}
use Rattle.us_codec.specs.Faults.{elements_at}
use Rattle.us_lawful.specs.Regions.{Region, element_regions, map_regions}
use Rattle.us_map_rules.specs.MapsReading.{IsMapsOf}
use Rattle.us_map_rules.specs.Minislots.{AreSideBySide, IsFirstFailing}
use Rattle.us_map_rules.specs.Pieces.{AreElementsOf}
use Rattle.us_map_rules.specs.RegionLines.{PlacedRegion}
use Rattle.us_map_rules.specs.Gathered.{AreGathered, IsFirstBefore, IsFirstWith, lines_of, map_holds, number_holds}
use Rattle.us_map_rules.proofs.PartLemmas.{same_test}

-- The lines of a MAP: with one more that is of it,
lines_here : (number : ℕ) (placed : List PlacedRegion) (q : PlacedRegion) → q.map ≡ number →
    lines_of number (placed ++ q ∷ []) ≡ lines_of number placed ++ q.region ∷ []
lines_here number [] q same = rw (eq-eqb q.map number same) refl
lines_here number (p ∷ placed) q same = elim (cases_Bool (p.map == number)) [
  | inl here ↦ rw here (ap (λ rs. p.region ∷ rs) (lines_here number placed q same))
  | inr away ↦ rw away (lines_here number placed q same)
]

-- with one more that isn't,
lines_away : (number : ℕ) (placed : List PlacedRegion) (q : PlacedRegion) → (q.map ≡ number → ⊥) →
    lines_of number (placed ++ q ∷ []) ≡ lines_of number placed
lines_away number [] q other = rw (ne_eqb q.map number other) refl
lines_away number (p ∷ placed) q other = elim (cases_Bool (p.map == number)) [
  | inl here ↦ rw here (ap (λ rs. p.region ∷ rs) (lines_away number placed q other))
  | inr away ↦ rw away (lines_away number placed q other)
]

-- and where all lines are of MAPs before it
no_lines : (number n : ℕ) (placed : List PlacedRegion) → number < n → AllByRecursion (λ q. q.map ≤ number) placed →
    lines_of n placed ≡ []
no_lines number n [] more all = refl
no_lines number n (q ∷ placed) more all =
    rw (ne_eqb q.map n (λ same. omega (arith, same, all.0, more))) (no_lines number n placed more all.1)

up_to_next : (number : ℕ) (placed : List PlacedRegion) → AllByRecursion (λ q. q.map ≤ number) placed →
    AllByRecursion (λ q. q.map ≤ number + 1) placed
up_to_next number [] all = tt
up_to_next number (q ∷ placed) all = (omega (arith, all.0), up_to_next number placed all.1)

-- of lines, one after another
pub one_told : {X Y : Type 0} (f : X → Option Y) (x : X) (o : Option Y) → f x ≡ o → filter_map f (x ∷ []) ≡ option_to_list o
one_told f x None is = rw is refl
one_told f x (Some y) is = rw is refl

-- Tests that say the same have the same first failures.

same_before : (f g : ℕ → ℕ → Bool) (number : ℕ) (first : Option (ℕ × ℕ)) →
    ((n : ℕ) → n < number → (at : ℕ) → g n at ≡ f n at) → IsFirstBefore f number first → IsFirstBefore g number first
same_before f g number None same first = λ n less at. same n less at ∙ first n less at
same_before f g number (Some p) same first = (
  first.0,
  same_test (f p.0) (g p.0) (Some p.1) (λ at. sym (same p.0 first.0 at)) first.1,
  λ n less at. same n (omega (arith, less, first.0)) at ∙ first.2 n less at,
)

with_one : (f : ℕ → ℕ → Bool) (g : ℕ → Bool) (number : ℕ) (first next : Option (ℕ × ℕ)) →
    ((at : ℕ) → f number at ≡ g at) → IsFirstBefore f number first → IsFirstWith g number first next →
    IsFirstBefore f (number + 1) next
with_one f g number (Some p) next same before more =
    subst (IsFirstBefore f (number + 1)) (sym more) (omega (arith, before.0), before.1, before.2)
with_one f g number None None same before more = λ n less at. elim (cases_lt n number) [
  | inl early ↦ before n early at
  | inr late ↦
      let is : n ≡ number = omega (arith, less, late) in
      ap (λ n. f n at) is ∙ same at ∙ more at
]
with_one f g number None (Some p) same before more = (
  omega (arith, more.0),
  subst (λ n. IsFirstFailing (f n) (Some p.1)) (sym more.0) (same_test g (f number) (Some p.1) (λ at. sym (same at)) more.1),
  λ n less at. before n (omega (arith, less, more.0)) at,
)

-- What is left of a file.

get_dropped : {X : Type 0} (xs : List X) (n : ℕ) → slice_get (drop n xs) 0 ≡ slice_get xs n
get_dropped [] zero = refl
get_dropped [] (suc n) = refl
get_dropped (x ∷ xs) zero = refl
get_dropped (x ∷ xs) (suc n) = get_dropped xs n

pub drop_least : (at : ℕ) (bytes : List ℕ) → drop (min at (length bytes)) bytes ≡ drop at bytes
drop_least at bytes = elim (cases_lt at (length bytes)) [
  | inl inside ↦
      let is : min at (length bytes) ≡ at = omega (arith, inside) in
      ap (λ i. drop i bytes) is
  | inr past ↦ drop_all (min at (length bytes)) bytes (omega (arith, past)) ∙ sym (drop_all at bytes past)
]

-- Steps.

pub gathered_nothing : (t : Tables) (rounds : ℕ) (bytes : List ℕ) (maps : List RoundMap) → IsMapsOf bytes maps →
    AreGathered t rounds bytes maps [] 0 0 [] None
gathered_nothing t rounds bytes maps of = record {
  within = omega arith;
  none_later = tt;
  kept = refl;
  judged = λ n less at. absurd (omega (arith, less));
  left = of;
}

module _ (t : Tables) (rounds : ℕ) (bytes : List ℕ) (maps : List RoundMap) (placed : List PlacedRegion) (number at : ℕ)
    (regions : List Region) (first : Option (ℕ × ℕ)) (told : AreGathered t rounds bytes maps placed number at regions first) where
  pub gathered_more : (q : PlacedRegion) → q.map ≡ number →
      AreGathered t rounds bytes maps (placed ++ q ∷ []) number at (regions ++ q.region ∷ []) first
  gathered_more q same = record {
    within = told.within;
    none_later = all_append (λ q. q.map ≤ number) placed (q ∷ []) told.none_later (omega (arith, same), tt);
    kept = ap (λ rs. rs ++ q.region ∷ []) told.kept ∙ sym (lines_here number placed q same);
    judged = same_before (map_holds t maps placed) (map_holds t maps (placed ++ q ∷ [])) number first
        (λ n less at. ap (λ ls. number_holds t n ls (map_regions (slice_get maps n)) at)
        (lines_away n placed q (λ is. omega (arith, is, same, less)))) told.judged;
    left = told.left;
  }

  -- the record that begins at `from` has these elements, and ends `len` behind it
  pub gathered_closed : (elements : List ℕ) (from len : ℕ) (rest : List ℕ) (next : Option (ℕ × ℕ)) →
      number < rounds * length t.channels → rest ≡ drop from bytes → drop from bytes ≡ drop at bytes →
      ((ms : List RoundMap) → IsMapsOf rest ms →
      IsMapsOf (drop len rest) (drop 1 ms) × AreElementsOf (slice_get ms 0) elements) →
      (AreSideBySide 0 (element_regions (elements_at elements)) →
      IsFirstWith (number_holds t number regions (element_regions (elements_at elements))) number first next) →
      AreGathered t rounds bytes maps placed (number + 1) (from + len) [] next
  gathered_closed elements from len rest next inside is here reads with =
      let read = reads (drop number maps) (subst (λ bs. IsMapsOf bs (drop number maps)) (sym (is ∙ here)) told.left) in
      let pieces : List Region = element_regions (elements_at elements) in
      let told_is : pieces ≡ map_regions (slice_get maps number) = read.1.1 ∙ ap map_regions (get_dropped maps number) in
      record {
        within = omega (arith, inside);
        none_later = up_to_next number placed told.none_later;
        kept = sym (no_lines number (number + 1) placed (omega arith) told.none_later);
        judged = with_one (map_holds t maps placed) (number_holds t number regions pieces) number first next
            (λ at. ap₂ (λ ls ps. number_holds t number ls ps at) (sym told.kept) (sym told_is)) told.judged (with read.1.0);
        left = subst (λ bs. IsMapsOf bs (drop (number + 1) maps)) (ap (drop len) is ∙ drop-drop len from bytes)
            (subst (IsMapsOf (drop len rest)) (drop-drop 1 number maps) read.0);
      }
