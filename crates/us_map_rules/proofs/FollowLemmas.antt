-- Elements that are the regions one after another, and the gaps between them.
use Rattle.std.proofs.Common.{◌≡◌, ℕ, suc, ◌+◌, ◌<◌, ◌≤◌, Bool, true, List, [], ◌∷◌, ◌++◌, map, Option, Some, None, refl, sym, ap, ◌∙◌, subst, append-nil, length, get_or, drop, drop-cons, add-one, arith, inl, inr}
use Rattle.std.specs.Prelude.{IfNone, is_some, not}
use Rattle.std.proofs.lemmas.Bool.{false≢true, le-ltb, lt-ltb}
use Rattle.std.proofs.lemmas.List.{drop_all}
use Rattle.us_flows.specs.declared.channels.Channel.{Channel}
use Rattle.us_holes.specs.Boards.{Assignment}
use Rattle.us_holes.specs.Runs.{InOrder, runs_between, idle_run}
use Rattle.us_lawful.specs.Regions.{Region, end_of, minislot_holds}
use Rattle.us_lawful.specs.Laws.{region_for, element_region_for}
use Rattle.us_lawful.proofs.RegionLemmas.{ordered_assignments_hold}
use Rattle.us_map_rules.specs.Minislots.{IsBehindGap}

-- a region as an assignment
abbrev pub assignment_of : Region → Assignment
assignment_of s = record { start = s.start; slots = s.slots; owner = record { sid = s.sid; iuc = s.iuc } }

-- from here on the regions are in order, and the elements are theirs and the gaps'
pub record Follows (c : Channel) (len from : ℕ) (regions pieces : List Region) : Type 0 where
  pub ordered : InOrder from (map assignment_of regions) len
  pub elements : pieces ≡ map (element_region_for c) (runs_between from (map assignment_of regions) len)

gap_elements : (c : Channel) (from to : ℕ) (pieces rest : List Region) → IsBehindGap c from to pieces rest →
    (from ≤ to) × (pieces ≡ map (element_region_for c) (idle_run from to) ++ rest)
gap_elements c from to pieces rest (inl same) = (omega (arith, same.0), rw (le-ltb from to (omega (arith, same.0))) same.1)
gap_elements c from to pieces rest (inr some) = (omega (arith, some.0), rw (lt-ltb from to some.0) some.1)

mapped_behind : {X Y : Type 0} (f : X → Y) (xs ys : List X) → map f (xs ++ ys) ≡ map f xs ++ map f ys
mapped_behind f [] ys = refl
mapped_behind f (x ∷ xs) ys = ap (λ zs. f x ∷ zs) (mapped_behind f xs ys)

-- the gap at the end
pub last_follows : (c : Channel) (len from : ℕ) (pieces : List Region) → IsBehindGap c from len pieces [] →
    Follows c len from [] pieces
unfolding InOrder runs_between
last_follows c len from pieces behind =
    let told = gap_elements c from len pieces [] behind in
    record { ordered = told.0; elements = told.1 ∙ append-nil (map (element_region_for c) (idle_run from len)) }

-- one region, and a gap before it
pub one_follows : (c : Channel) (len from : ℕ) (s : Region) (more pieces behind rest : List Region) →
    IsBehindGap c from s.start pieces behind → 0 < s.slots → behind ≡ s ∷ rest → Follows c len (end_of s) more rest →
    Follows c len from (s ∷ more) pieces
unfolding InOrder runs_between
one_follows c len from s more pieces behind rest gap some is follows =
    let told = gap_elements c from s.start pieces behind gap in
    record {
      ordered = (told.0, some, follows.ordered);
      elements = told.1 ∙ ap (λ ps. map (element_region_for c) (idle_run from s.start) ++ ps) (is ∙ ap (λ ps. s ∷ ps) follows.elements)
          ∙ sym (mapped_behind (element_region_for c) (idle_run from s.start) _);
    }

regions_back : (regions : List Region) → map region_for (map assignment_of regions) ≡ regions
regions_back [] = refl
regions_back (s ∷ more) = ap (λ ss. s ∷ ss) (regions_back more)

pub follows_hold : (c : Channel) (len : ℕ) (regions pieces : List Region) → Follows c len 0 regions pieces → (at : ℕ) →
    minislot_holds c len regions pieces at ≡ true
follows_hold c len regions pieces follows at =
    subst (λ ps. minislot_holds c len regions ps at ≡ true) (sym follows.elements)
    (subst (λ ss. minislot_holds c len ss (map (element_region_for c) (runs_between 0 (map assignment_of regions) len)) at ≡ true)
    (regions_back regions) (ordered_assignments_hold c len (map assignment_of regions) at follows.ordered))

-- the step of a walk over the regions
pub step_follows : (c : Channel) (len from end i : ℕ) (d s : Region) (regions rest behind more : List Region) →
    i < length regions → s ≡ get_or regions i d → IsBehindGap c from s.start rest behind →
    (0 < s.slots) × (behind ≡ s ∷ more) → end ≡ end_of s → Follows c len end (drop (i + 1) regions) more →
    Follows c len from (drop i regions) rest
step_follows c len from end i d s regions rest behind more inside is gap region ends follows =
    let here : drop i regions ≡ s ∷ drop (i + 1) regions =
    rw add-one (drop-cons regions i d inside ∙ ap (λ x. x ∷ drop (suc i) regions) (sym is)) in
    subst (λ rs. Follows c len from rs rest) (sym here)
    (one_follows c len from s (drop (i + 1) regions) rest behind more gap region.0 region.1
    (subst (λ e. Follows c len e (drop (i + 1) regions) more) ends follows))

-- and its end
pub end_follows : (c : Channel) (len from i : ℕ) (regions rest behind : List Region) → length regions ≤ i →
    IsBehindGap c from len rest behind → behind ≡ [] → Follows c len from (drop i regions) rest
end_follows c len from i regions rest behind over gap none =
    subst (λ rs. Follows c len from rs rest) (sym (drop_all i regions over))
    (last_follows c len from rest (subst (IsBehindGap c from len rest) none gap))

pub none_told : {X : Type 0} (o : Option X) (P : Type 0) (none : Bool) → is_some o ≡ not none → none ≡ true → IfNone o P → P
none_told None P none is so told = told
none_told (Some x) P none is so told = absurd (false≢true (sym (is ∙ ap not so)))
