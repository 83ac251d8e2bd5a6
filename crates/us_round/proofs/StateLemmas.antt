-- What grants take of the outstanding bytes and of the buckets, one after another.
use Rattle.std.proofs.Common.{◌≡◌, ℕ, zero, suc, ◌+◌, ◌-◌, ◌*◌, ◌/◌, ◌<◌, ◌≤◌, eqb, Bool, true, false, cond, List, [], ◌∷◌, ◌++◌, length, set, get_or, slice_index, slice_get, slice_set, slice_index_or, filter, Some, None, Option, refl, ap, sym, subst, ◌∙◌, inl, inr, arith}
use Rattle.std.specs.Prelude.{IfSome}
use Rattle.std.specs.List.{AllByRecursion}
use Rattle.std.proofs.lemmas.Bool.{cases_Bool, eqb-true, eqb-false}
use Rattle.std.proofs.lemmas.List.{length-set, get_or-set_same, get_or-set_other, get_or_default}
use Rattle.std.proofs.lemmas.Option.{slice_get-get_or, get_or_from_slice_get, slice_get_within}
use Rattle.std.proofs.lemmas.List.Sums.{sum_by-cons}
use Rattle.us_bucket.specs.Levels.{Level, full, spent, bytes_in, units_per_byte}
use Rattle.us_split.specs.PlanLaws.{Within}
use Rattle.us_channel.specs.Placements.{PlacedClaim, credits}
use Rattle.us_channel.specs.Channels.{Built}
use Rattle.us_round.specs.Rounds.{all_grants, is_of_cluster, is_of_flow, uncredited, spent_of}
use Rattle.us_round.specs.States.{IsKnown, Covers}

-- a grant's credit counts where it passes
pub credits-cons : (p : PlacedClaim → Bool) (g : PlacedClaim) (gs : List PlacedClaim) →
    credits p (g ∷ gs) ≡ cond (p g) g.credit 0 + credits p gs
credits-cons p g gs = elim (cases_Bool (p g)) [
  | inl t ↦ rw t (sum_by-cons (λ x. x.credit) g (filter p gs))
  | inr f ↦ rw f (omega arith)
]

credits-in : (p : PlacedClaim → Bool) (g : PlacedClaim) (gs : List PlacedClaim) → p g ≡ true → credits p (g ∷ gs) ≡ g.credit + credits p gs
credits-in p g gs is = credits-cons p g gs ∙ ap (λ b. cond b g.credit 0 + credits p gs) is

credits-out : (p : PlacedClaim → Bool) (g : PlacedClaim) (gs : List PlacedClaim) → p g ≡ false → credits p (g ∷ gs) ≡ credits p gs
credits-out p g gs is =
    let nothing : cond (p g) g.credit 0 ≡ 0 = ap (λ b. cond b g.credit 0) is in
    omega (arith, credits-cons p g gs, nothing)

eqb-not : (m n : ℕ) → (m ≡ n → ⊥) → eqb m n ≡ false
eqb-not m n differ = elim (cases_Bool (eqb m n)) [
  | inl same ↦ absurd (differ (eqb-true m n same))
  | inr other ↦ other
]

pub eqb-self : (m n : ℕ) → m ≡ n → eqb m n ≡ true
eqb-self m n same = elim (cases_Bool (eqb m n)) [
  | inl is ↦ is
  | inr other ↦ absurd (eqb-false m n other same)
]

-- Outstanding bytes.

-- a grant takes nothing of the clusters behind its own,
left_behind : (g : PlacedClaim) (gs : List PlacedClaim) (number : ℕ) (os : List ℕ) → g.claimant.cluster < number →
    uncredited (g ∷ gs) number os ≡ uncredited gs number os
left_behind g gs number [] h = refl
left_behind g gs number (o ∷ os) h =
    let none : credits (is_of_cluster number) (g ∷ gs) ≡ credits (is_of_cluster number) gs =
    credits-out (is_of_cluster number) g gs (eqb-not g.claimant.cluster number (λ same. omega (arith, same, h))) in
    rw (none, left_behind g gs (number + 1) os (omega (arith, h))) refl

-- and its credit of its own
left_from : (g : PlacedClaim) (gs : List PlacedClaim) (number place left d : ℕ) (os : List ℕ) → g.claimant.cluster ≡ number + place →
    place < length os → left + g.credit ≡ get_or os place d →
    uncredited (g ∷ gs) number os ≡ uncredited gs number (set os place left)
left_from g gs number place left d [] at inside is = absurd (omega (arith, inside))
left_from g gs number zero left d (o ∷ os) at inside is =
    let own : credits (is_of_cluster number) (g ∷ gs) ≡ g.credit + credits (is_of_cluster number) gs =
    credits-in (is_of_cluster number) g gs (eqb-self g.claimant.cluster number (omega (arith, at))) in
    let rest : o - credits (is_of_cluster number) (g ∷ gs) ≡ left - credits (is_of_cluster number) gs =
    omega (arith, own, is) in
    rw (rest, left_behind g gs (number + 1) os (omega (arith, at))) refl
left_from g gs number (suc place) left d (o ∷ os) at inside is =
    let none : credits (is_of_cluster number) (g ∷ gs) ≡ credits (is_of_cluster number) gs =
    credits-out (is_of_cluster number) g gs (eqb-not g.claimant.cluster number (λ same. omega (arith, same, at))) in
    rw (none, left_from g gs (number + 1) place left d os (omega (arith, at)) (omega (arith, inside)) is) refl

pub left_first : (g : PlacedClaim) (gs : List PlacedClaim) (left d : ℕ) (os : List ℕ) → g.claimant.cluster < length os →
    left + g.credit ≡ slice_index_or os g.claimant.cluster d →
    uncredited (g ∷ gs) 0 os ≡ uncredited gs 0 (slice_set os g.claimant.cluster left)
left_first g gs left d os inside is = left_from g gs 0 g.claimant.cluster left d os (omega arith) inside is

pub left_none : (number : ℕ) (os : List ℕ) → uncredited [] number os ≡ os
left_none number [] = refl
left_none number (o ∷ os) =
    let same : o - credits (is_of_cluster number) [] ≡ o = omega arith in
    rw (left_none (number + 1) os) (ap (λ x. x ∷ os) same)

-- Buckets.

spent-twice : (some more : ℕ) (l : Level) → spent (some + more) l ≡ spent more (spent some l)
unfolding spent
spent-twice some more l = elim (cases_Bool (eqb l.rate 0)) [
  | inl none ↦ rw none refl
  | inr limit ↦
      let less : l.units - (some + more) * units_per_byte ≡ l.units - some * units_per_byte - more * units_per_byte = omega arith in
      rw limit (ap (λ units. record { rate = l.rate; burst = l.burst; units = units }) less)
]

pub spent-none : (l : Level) → spent 0 l ≡ l
unfolding spent
spent-none l = elim (cases_Bool (eqb l.rate 0)) [
  | inl none ↦ rw none refl
  | inr limit ↦
      let same : l.units - 0 * units_per_byte ≡ l.units = omega arith in
      rw limit (ap (λ units. record { rate = l.rate; burst = l.burst; units = units }) same)
]

spent_behind : (g : PlacedClaim) (gs : List PlacedClaim) (place : ℕ) (bs : List Level) → g.claimant.place < place →
    spent_of (g ∷ gs) place bs ≡ spent_of gs place bs
spent_behind g gs place [] h = refl
spent_behind g gs place (b ∷ bs) h =
    let none : credits (is_of_flow place) (g ∷ gs) ≡ credits (is_of_flow place) gs =
    credits-out (is_of_flow place) g gs (eqb-not g.claimant.place place (λ same. omega (arith, same, h))) in
    rw (none, spent_behind g gs (place + 1) bs (omega (arith, h))) refl

spent_from : (g : PlacedClaim) (gs : List PlacedClaim) (first place : ℕ) (b d : Level) (bs : List Level) →
    g.claimant.place ≡ first + place → place < length bs → b ≡ spent g.credit (get_or bs place d) →
    spent_of (g ∷ gs) first bs ≡ spent_of gs first (set bs place b)
spent_from g gs first place b d [] at inside is = absurd (omega (arith, inside))
spent_from g gs first zero b d (x ∷ bs) at inside is =
    let own : credits (is_of_flow first) (g ∷ gs) ≡ g.credit + credits (is_of_flow first) gs =
    credits-in (is_of_flow first) g gs (eqb-self g.claimant.place first (omega (arith, at))) in
    let rest : spent (credits (is_of_flow first) (g ∷ gs)) x ≡ spent (credits (is_of_flow first) gs) b =
    ap (λ n. spent n x) own ∙ spent-twice g.credit (credits (is_of_flow first) gs) x
    ∙ ap (λ l. spent (credits (is_of_flow first) gs) l) (sym is) in
    rw (rest, spent_behind g gs (first + 1) bs (omega (arith, at))) refl
spent_from g gs first (suc place) b d (x ∷ bs) at inside is =
    let none : credits (is_of_flow first) (g ∷ gs) ≡ credits (is_of_flow first) gs =
    credits-out (is_of_flow first) g gs (eqb-not g.claimant.place first (λ same. omega (arith, same, at))) in
    rw (none, spent_from g gs (first + 1) place b d bs (omega (arith, at)) (omega (arith, inside)) is) refl

pub spent_first : (g : PlacedClaim) (gs : List PlacedClaim) (b d : Level) (bs : List Level) → g.claimant.place < length bs →
    b ≡ spent g.credit (slice_index_or bs g.claimant.place d) →
    spent_of (g ∷ gs) 0 bs ≡ spent_of gs 0 (slice_set bs g.claimant.place b)
spent_first g gs b d bs inside is = spent_from g gs 0 g.claimant.place b d bs (omega arith) inside is

pub spent_none : (place : ℕ) (bs : List Level) → spent_of [] place bs ≡ bs
spent_none place [] = refl
spent_none place (b ∷ bs) = rw (spent-none b, spent_none (place + 1) bs) refl

-- What grants may take.

-- the bytes that a bucket has after some were spent
within_spent : (some more : ℕ) (l : Level) → Within (bytes_in l) (some + more) → Within (bytes_in (spent some l)) more
unfolding spent bytes_in
within_spent some more l h = elim (cases_Bool (eqb l.rate 0)) [
  | inl none ↦ rw none tt
  | inr limit ↦
      let have : some + more ≤ l.units / units_per_byte = rw limit at h in
      rw limit (omega (arith, have))
]

pub within_less : (most : Option ℕ) (few more : ℕ) → few ≤ more → Within most more → Within most few
within_less None few more less h = tt
within_less (Some most) few more less h = omega (arith, less, h)

-- the bucket of a grant's flow has its credit
pub first_allowed : (g : PlacedClaim) (gs : List PlacedClaim) (os : List ℕ) (bs : List Level) (bucket : Level) → Covers os bs (g ∷ gs) →
    slice_get bs g.claimant.place ≡ Some bucket → IfSome (bytes_in bucket) (λ most. g.credit ≤ most)
first_allowed g gs os bs bucket h at =
    let all : Within (bytes_in bucket) (credits (is_of_flow g.claimant.place) (g ∷ gs)) = h.allowed g.claimant.place bucket at in
    let own : credits (is_of_flow g.claimant.place) (g ∷ gs) ≡ g.credit + credits (is_of_flow g.claimant.place) gs =
    credits-in (is_of_flow g.claimant.place) g gs (eqb-self g.claimant.place g.claimant.place refl) in
    as_some (bytes_in bucket)
    (within_less (bytes_in bucket) g.credit (credits (is_of_flow g.claimant.place) (g ∷ gs)) (omega (arith, own)) all)
  where
    as_some : (most : Option ℕ) → Within most g.credit → IfSome most (λ most. g.credit ≤ most)
    as_some None h = tt
    as_some (Some most) h = h

-- what is outstanding of a grant's cluster has its credit
pub first_asked : (g : PlacedClaim) (gs : List PlacedClaim) (os : List ℕ) (bs : List Level) → Covers os bs (g ∷ gs) →
    g.credit ≤ slice_index os g.claimant.cluster
first_asked g gs os bs h =
    let own : credits (is_of_cluster g.claimant.cluster) (g ∷ gs) ≡ g.credit + credits (is_of_cluster g.claimant.cluster) gs =
    credits-in (is_of_cluster g.claimant.cluster) g gs (eqb-self g.claimant.cluster g.claimant.cluster refl) in
    omega (arith, own, h.asked g.claimant.cluster)

known-set : (m n k l : ℕ) (gs : List PlacedClaim) → m ≡ k → n ≡ l → AllByRecursion (IsKnown m n) gs → AllByRecursion (IsKnown k l) gs
known-set m n k l gs same also h = rw (← same, ← also) h

-- and the rest is covered by what is left
pub covers_rest : (g : PlacedClaim) (gs : List PlacedClaim) (os : List ℕ) (bs : List Level) (left d : ℕ) (b e : Level) →
    Covers os bs (g ∷ gs) → left + g.credit ≡ slice_index_or os g.claimant.cluster d →
    b ≡ spent g.credit (slice_index_or bs g.claimant.place e) →
    Covers (slice_set os g.claimant.cluster left) (slice_set bs g.claimant.place b) gs
covers_rest g gs os bs left d b e h is spends = record {
  known = known-set (length os) (length bs) _ _ gs (sym (length-set os g.claimant.cluster left))
      (sym (length-set bs g.claimant.place b)) h.known.1;
  asked = λ number. asked number;
  allowed = λ place bucket at. allowed place bucket at;
}
  where
    asked : (number : ℕ) → credits (is_of_cluster number) gs ≤ slice_index (slice_set os g.claimant.cluster left) number
    asked number = elim (cases_Bool (eqb g.claimant.cluster number)) [
      | inl same ↦
          let own = credits-in (is_of_cluster number) g gs same in
          let at : number ≡ g.claimant.cluster = sym (eqb-true g.claimant.cluster number same) in
          let new : get_or (set os g.claimant.cluster left) g.claimant.cluster 0 ≡ left =
          get_or-set_same os g.claimant.cluster left 0 h.known.0.cluster in
          let old : get_or os g.claimant.cluster 0 ≡ get_or os g.claimant.cluster d =
          get_or_default os g.claimant.cluster 0 d h.known.0.cluster in
          let room : credits (is_of_cluster number) (g ∷ gs) ≤ get_or os g.claimant.cluster 0 =
          subst (λ n. credits (is_of_cluster number) (g ∷ gs) ≤ get_or os n 0) at (h.asked number) in
          subst (λ n. credits (is_of_cluster number) gs ≤ get_or (set os g.claimant.cluster left) n 0) (sym at)
          (omega (arith, own, new, old, room, is))
      | inr other ↦
          let none = credits-out (is_of_cluster number) g gs other in
          let kept : get_or (set os g.claimant.cluster left) number 0 ≡ get_or os number 0 =
          get_or-set_other os g.claimant.cluster number left 0 (λ same. eqb-false g.claimant.cluster number other (sym same)) in
          omega (arith, none, kept, h.asked number)
    ]

    allowed : (place : ℕ) (bucket : Level) → slice_get (slice_set bs g.claimant.place b) place ≡ Some bucket →
        Within (bytes_in bucket) (credits (is_of_flow place) gs)
    allowed place bucket at = elim (cases_Bool (eqb g.claimant.place place)) [
      | inl same ↦
          let own = credits-in (is_of_flow place) g gs same in
          let here : g.claimant.place ≡ place = eqb-true g.claimant.place place same in
          let inside : place < length bs = subst (λ n. n < length bs) here h.known.0.place in
          let was : slice_get bs place ≡ Some (get_or bs place e) = slice_get-get_or bs place e inside in
          let new : bucket ≡ b =
          sym (get_or_from_slice_get (set bs g.claimant.place b) place bucket e at)
          ∙ ap (λ n. get_or (set bs g.claimant.place b) n e) (sym here)
          ∙ get_or-set_same bs g.claimant.place b e h.known.0.place in
          let left_over : bucket ≡ spent g.credit (get_or bs place e) =
          new ∙ spends ∙ ap (λ n. spent g.credit (get_or bs n e)) here in
          let all : Within (bytes_in (get_or bs place e)) (g.credit + credits (is_of_flow place) gs) =
          subst (λ n. Within (bytes_in (get_or bs place e)) n) own (h.allowed place (get_or bs place e) was) in
          rw left_over (within_spent g.credit (credits (is_of_flow place) gs) (get_or bs place e) all)
      | inr other ↦
          let none = credits-out (is_of_flow place) g gs other in
          let inside : place < length bs =
          subst (λ n. place < n) (length-set bs g.claimant.place b) (slice_get_within (set bs g.claimant.place b) place bucket at) in
          let kept : slice_get bs place ≡ Some bucket =
          slice_get-get_or bs place e inside
          ∙ ap (λ x. Some x) (sym (get_or-set_other bs g.claimant.place place b e (λ same. eqb-false g.claimant.place place other (sym same)))
          ∙ get_or_from_slice_get (set bs g.claimant.place b) place bucket e at) in
          subst (λ n. Within (bytes_in bucket) n) none (h.allowed place bucket kept)
    ]

-- A turn of the loop.

pub may_spend : (g : PlacedClaim) (gs : List PlacedClaim) (os : List ℕ) (bs : List Level) (place credit : ℕ) (d : Level) →
    Covers os bs (g ∷ gs) → place ≡ g.claimant.place → credit ≡ g.credit →
    IfSome (bytes_in (slice_index_or bs place d)) (λ most. credit ≤ most)
may_spend g gs os bs place credit d h at is =
    rw (at, is) (first_allowed g gs os bs (get_or bs g.claimant.place d) h
    (slice_get-get_or bs g.claimant.place d h.known.0.place))

-- what stands after a grant, where its definitions came to these before
pub after_grant : (g : PlacedClaim) (gs : List PlacedClaim) (os wanted : List ℕ) (bs wished : List Level)
    (cluster place credit left d : ℕ) (b e : Level) →
    Covers os bs (g ∷ gs) → uncredited (g ∷ gs) 0 os ≡ wanted → spent_of (g ∷ gs) 0 bs ≡ wished →
    cluster ≡ g.claimant.cluster → place ≡ g.claimant.place → credit ≡ g.credit →
    left + credit ≡ slice_index_or os cluster d → b ≡ spent credit (slice_index_or bs place e) →
    Covers (slice_set os cluster left) (slice_set bs place b) gs
    × (uncredited gs 0 (slice_set os cluster left) ≡ wanted)
    × (spent_of gs 0 (slice_set bs place b) ≡ wished)
after_grant g gs os wanted bs wished cluster place credit left d b e h lefts spents at there is takes spends =
    let taken : left + g.credit ≡ slice_index_or os g.claimant.cluster d = rw (at, is) at takes in
    let spend : b ≡ spent g.credit (slice_index_or bs g.claimant.place e) = rw (there, is) at spends in
    rw (at, there) (
      covers_rest g gs os bs left d b e h taken spend,
      sym (left_first g gs left d os h.known.0.cluster taken) ∙ lefts,
      sym (spent_first g gs b e bs h.known.0.place spend) ∙ spents,
    )

-- Grants behind others.

credits-append : (p : PlacedClaim → Bool) (xs ys : List PlacedClaim) → credits p (xs ++ ys) ≡ credits p xs + credits p ys
credits-append p [] ys = omega arith
credits-append p (g ∷ xs) ys =
    omega (arith, credits-cons p g (xs ++ ys), credits-cons p g xs, credits-append p xs ys)

all-front : (P : PlacedClaim → Type 0) (xs ys : List PlacedClaim) → AllByRecursion P (xs ++ ys) → AllByRecursion P xs
all-front P [] ys h = tt
all-front P (g ∷ xs) ys h = (h.0, all-front P xs ys h.1)

-- what covers all covers those in front,
pub covers_front : (xs ys : List PlacedClaim) (os : List ℕ) (bs : List Level) → Covers os bs (xs ++ ys) → Covers os bs xs
covers_front xs ys os bs h = record {
  known = all-front (IsKnown (length os) (length bs)) xs ys h.known;
  asked = λ number. omega (arith, credits-append (is_of_cluster number) xs ys, h.asked number);
  allowed = λ place bucket at.
      within_less (bytes_in bucket) (credits (is_of_flow place) xs) (credits (is_of_flow place) (xs ++ ys))
      (omega (arith, credits-append (is_of_flow place) xs ys)) (h.allowed place bucket at);
}

-- and what they leave covers those behind
pub covers_back : (xs ys : List PlacedClaim) (os : List ℕ) (bs : List Level) → Covers os bs (xs ++ ys) →
    Covers (uncredited xs 0 os) (spent_of xs 0 bs) ys
covers_back [] ys os bs h = rw (left_none 0 os, spent_none 0 bs) h
covers_back (g ∷ xs) ys os bs h =
    let none : Level = full 0 0 in
    let left : ℕ = slice_index os g.claimant.cluster - g.credit in
    let bucket : Level = spent g.credit (slice_index_or bs g.claimant.place none) in
    let took : left + g.credit ≡ slice_index_or os g.claimant.cluster 0 =
    omega (arith, first_asked g (xs ++ ys) os bs h) in
    let rest : Covers (slice_set os g.claimant.cluster left) (slice_set bs g.claimant.place bucket) (xs ++ ys) =
    covers_rest g (xs ++ ys) os bs left 0 bucket none h took refl in
    rw (left_first g xs left 0 os h.known.0.cluster took, spent_first g xs bucket none bs h.known.0.place refl)
    (covers_back xs ys (slice_set os g.claimant.cluster left) (slice_set bs g.claimant.place bucket) rest)

pub left_append : (xs ys : List PlacedClaim) (number : ℕ) (os : List ℕ) →
    uncredited (xs ++ ys) number os ≡ uncredited ys number (uncredited xs number os)
left_append xs ys number [] = refl
left_append xs ys number (o ∷ os) =
    let first : o - credits (is_of_cluster number) (xs ++ ys)
    ≡ o - credits (is_of_cluster number) xs - credits (is_of_cluster number) ys =
    omega (arith, credits-append (is_of_cluster number) xs ys) in
    rw (first, left_append xs ys (number + 1) os) refl

pub spent_append : (xs ys : List PlacedClaim) (place : ℕ) (bs : List Level) →
    spent_of (xs ++ ys) place bs ≡ spent_of ys place (spent_of xs place bs)
spent_append xs ys place [] = refl
spent_append xs ys place (b ∷ bs) =
    let first : spent (credits (is_of_flow place) (xs ++ ys)) b
    ≡ spent (credits (is_of_flow place) ys) (spent (credits (is_of_flow place) xs) b) =
    ap (λ n. spent n b) (credits-append (is_of_flow place) xs ys)
    ∙ spent-twice (credits (is_of_flow place) xs) (credits (is_of_flow place) ys) b in
    rw (first, spent_append xs ys (place + 1) bs) refl

pub left-length : (gs : List PlacedClaim) (number : ℕ) (os : List ℕ) → length (uncredited gs number os) ≡ length os
left-length gs number [] = refl
left-length gs number (o ∷ os) = ap (λ n. suc n) (left-length gs (number + 1) os)

pub spent-length : (gs : List PlacedClaim) (place : ℕ) (bs : List Level) → length (spent_of gs place bs) ≡ length bs
spent-length gs place [] = refl
spent-length gs place (b ∷ bs) = ap (λ n. suc n) (spent-length gs (place + 1) bs)

-- what stands after a channel's grants, where its definitions came to these before
pub after_channel : (built : Built) (more : List Built) (gs : List PlacedClaim) (os wanted : List ℕ) (bs wished : List Level)
    (left : List ℕ) (spends : List Level) → gs ≡ built.grants →
    Covers os bs (all_grants (built ∷ more)) → uncredited (all_grants (built ∷ more)) 0 os ≡ wanted →
    spent_of (all_grants (built ∷ more)) 0 bs ≡ wished → left ≡ uncredited gs 0 os → spends ≡ spent_of gs 0 bs →
    Covers left spends (all_grants more) × (uncredited (all_grants more) 0 left ≡ wanted)
    × (spent_of (all_grants more) 0 spends ≡ wished)
after_channel built more gs os wanted bs wished left spends same h lefts spents is are =
    rw (is, are, same) (
      covers_back built.grants (all_grants more) os bs h,
      sym (left_append built.grants (all_grants more) 0 os) ∙ lefts,
      sym (spent_append built.grants (all_grants more) 0 bs) ∙ spents,
    )

pub channel_covered : (built : Built) (more : List Built) (gs : List PlacedClaim) (os : List ℕ) (bs : List Level) →
    gs ≡ built.grants → Covers os bs (all_grants (built ∷ more)) → Covers os bs gs
channel_covered built more gs os bs same h = rw same (covers_front built.grants (all_grants more) os bs h)
